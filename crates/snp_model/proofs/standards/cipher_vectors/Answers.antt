use Rattle.std.proofs.Common.{refl}
use Rattle.snp_model.specs.Aes.{sub_bytes, shift_rows, mix_columns, add_round_key, key_mask, first_words, key_expansion, rounds, cipher}
use Rattle.snp_model.specs.AesField.{◌•◌, times_low_bits, times_squares, inverse, s_box}
use Rattle.snp_model.proofs.standards.cipher_vectors.Goals as goal

pub returns : goal.returns
unfolding sub_bytes shift_rows mix_columns add_round_key key_mask first_words key_expansion rounds cipher ◌•◌ times_low_bits times_squares inverse s_box
returns c = record { product = refl; multiple = refl; substitution = refl; schedule = refl; block = refl }
