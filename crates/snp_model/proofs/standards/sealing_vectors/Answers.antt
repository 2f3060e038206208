use Rattle.std.proofs.Common.{refl}
use Rattle.snp_model.specs.Aes.{sub_bytes, shift_rows, mix_columns, add_round_key, key_mask, first_words, key_expansion, rounds, cipher}
use Rattle.snp_model.specs.AesField.{◌•◌, times_low_bits, times_squares, inverse, s_box}
use Rattle.snp_model.specs.Gcm.{first_blocks, blocks, padded, xor_bytes, inc32, ghash, gctr_blocks, gctr, hash_subkey, before_first, lengths_block, hashed, tag, seal, plain}
use Rattle.snp_model.specs.Polynomials.{coefficients, bytes_of, plus, zero_polynomial, reduction, times_x, product}
use Rattle.snp_model.proofs.standards.sealing_vectors.Goals as goal

pub returns : goal.returns
unfolding sub_bytes shift_rows mix_columns add_round_key key_mask first_words key_expansion rounds cipher ◌•◌ times_low_bits times_squares inverse s_box first_blocks blocks padded xor_bytes inc32 ghash gctr_blocks gctr hash_subkey before_first lengths_block hashed tag seal plain coefficients bytes_of plus zero_polynomial reduction times_x product
returns c = record { case_13 = refl; case_14 = refl; case_15 = refl; case_16 = refl; opened_16 = refl }
