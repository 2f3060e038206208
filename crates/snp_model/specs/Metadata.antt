-- Metadata entries, byte for byte, and the sealing of pages under a guest's context (this project's own; AES-256-GCM is that of NIST SP 800-38D).
use Rattle.std.specs.Prelude.{◌≡◌, ℕ, zero, suc, ◌+◌, ◌*◌, ◌/◌, ◌^◌, ◌<◌, ◌==◌, Bool, true, false, not, if◌then◌else◌, List, [], ◌∷◌, ◌++◌, length, take, drop, replicate, slice_index, Option, Some, None, Result, Ok, Err, bytes_eq}
use Rattle.std.specs.Int.{w16, w64, to_le_bytes, from_le_bytes}
use Rattle.std.specs.List.{list_all, range_with_len}
use Rattle.snp_model.specs.declared.entry.RmpEntry.{RmpEntry}
use Rattle.snp_model.specs.declared.event.FwRefusal.{FwRefusal}
use Rattle.snp_model.specs.declared.event.FwRefusal.TheVariants.{BadTag}
use Rattle.snp_model.specs.declared.firmware.MetaEntry.{MetaEntry}
use Rattle.snp_model.specs.Gcm.{seal, tag, plain}
use Rattle.snp_model.specs.Measurement.{page_bytes}
use Rattle.snp_model.specs.State.{Context}

-- the first n words of bytes: eight bytes a word, low byte first
unfoldable pub first_words : ℕ → List ℕ → List ℕ
first_words zero bytes = []
first_words (suc n) bytes = from_le_bytes w64 (take 8 bytes) ∷ first_words n (drop 8 bytes)

-- the words that these bytes make; those of a page's bytes are the page's
unfoldable pub words_of_bytes : List ℕ → List ℕ
words_of_bytes bytes = first_words (length bytes / 8) bytes

-- a flag as a byte
abbrev pub flag_byte : Bool → ℕ
flag_byte flag = if flag then 1 else 0

-- the 64 bytes of an entry in use: offset, length and name of each field
unfoldable pub entry_bytes : MetaEntry → List ℕ
entry_bytes entry =
    (1  -- 0, 1 byte: in use
    ∷ entry.kind  -- 1, 1 byte: kind, 1 for a guest page and 2 for a metadata page
    ∷ flag_byte entry.vmsa  -- 2, 1 byte: VMSA
    ∷ flag_byte entry.validated  -- 3, 1 byte: Validated
    ∷ [])
    ++ to_le_bytes w16 entry.asid  -- 4, 2 bytes, low byte first: ASID
    ++ replicate 2 0  -- 6, 2 bytes: 0
    ++ to_le_bytes w64 entry.gpn  -- 8, 8 bytes, low byte first: guest page number
    ++ entry.perms  -- 16, 4 bytes: permissions of VMPL0 to VMPL3
    ++ replicate 4 0  -- 20, 4 bytes: 0
    ++ to_le_bytes w64 entry.iv  -- 24, 8 bytes, low byte first: counter
    ++ entry.tag  -- 32, 16 bytes: tag
    ++ replicate 16 0  -- 48, 16 bytes: 0

-- the entry in 64 bytes: none where the first byte isn't 1; a flag is set where its byte isn't 0, and bytes 6, 7, 20 to 23 and 48 to 63 are passed over
unfoldable pub entry_from : List ℕ → Option MetaEntry
entry_from bytes =
    if slice_index bytes 0 == 1
    then Some (record {
      kind = slice_index bytes 1;
      vmsa = not (slice_index bytes 2 == 0);
      validated = not (slice_index bytes 3 == 0);
      asid = from_le_bytes w16 (take 2 (drop 4 bytes));
      gpn = from_le_bytes w64 (take 8 (drop 8 bytes));
      perms = take 4 (drop 16 bytes);
      iv = from_le_bytes w64 (take 8 (drop 24 bytes));
      tag = take 16 (drop 32 bytes);
    })
    else None

-- each of these numbers is a byte
abbrev pub AreBytes : List ℕ → Type 0
AreBytes bytes = (i : ℕ) → slice_index bytes i < 2 ^ 8

-- the fields of an entry are in their ranges
pub record IsMetaEntry (entry : MetaEntry) : Type 0 where
  pub kind : entry.kind < 2 ^ 8
  pub asid : entry.asid < 2 ^ 16
  pub gpn : entry.gpn < 2 ^ 64
  pub perms_count : length entry.perms ≡ 4
  pub perms : AreBytes entry.perms
  pub iv : entry.iv < 2 ^ 64
  pub tag_count : length entry.tag ≡ 16
  pub tag : AreBytes entry.tag

-- the eight words of an entry of a page
unfoldable pub slot : List ℕ → ℕ → List ℕ
slot words number = take 8 (drop (8 * number) words)

-- a page's words with these eight in place of those of an entry
unfoldable pub with_slot : List ℕ → ℕ → List ℕ → List ℕ
with_slot words number new = take (8 * number) words ++ (new ++ drop (8 * number + 8) words)

-- the entry in a page's words, numbers counting from 0
unfoldable pub entry_at : List ℕ → ℕ → Option MetaEntry
entry_at words number = entry_from (page_bytes (slot words number))

-- a page's words with this entry in use
unfoldable pub with_entry : List ℕ → ℕ → MetaEntry → List ℕ
with_entry words number entry = with_slot words number (words_of_bytes (entry_bytes entry))

-- a page's words with an entry that isn't in use, which is 64 zero bytes
unfoldable pub cleared : List ℕ → ℕ → List ℕ
cleared words number = with_slot words number (replicate 8 0)

-- whether an entry has an ASID, if it is in use
abbrev pub is_owned : ℕ → Option MetaEntry → Bool
is_owned asid None = true
is_owned asid (Some entry) = entry.asid == asid

-- whether each entry in use of a page's words has an ASID
unfoldable pub owned : List ℕ → ℕ → Bool
owned words asid = list_all (λ number. is_owned asid (entry_at words number)) (range_with_len 0 64)

-- the IV of a counter: four zero bytes, and the counter's eight bytes, low byte first
unfoldable pub iv_of : ℕ → List ℕ
iv_of counter = replicate 4 0 ++ to_le_bytes w64 counter

-- the additional data of an entry: its ASID and its guest page number, each eight bytes, low byte first
unfoldable pub aad_of : MetaEntry → List ℕ
aad_of entry = to_le_bytes w64 entry.asid ++ to_le_bytes w64 entry.gpn

-- what is kept of a guest's page, but for the tag
unfoldable pub page_entry : Context → RmpEntry → MetaEntry
page_entry context facts =
    record {
      kind = 1;
      vmsa = facts.vmsa;
      validated = facts.validated;
      asid = context.asid;
      gpn = facts.gpn;
      perms = facts.perms;
      iv = context.iv;
      tag = replicate 16 0;
    }

-- what is kept of a metadata page, but for the tag: its guest page number is 2^63
unfoldable pub metadata_entry : Context → MetaEntry
metadata_entry context =
    record {
      kind = 2;
      vmsa = false;
      validated = false;
      asid = context.asid;
      gpn = 0x8000_0000_0000_0000;
      perms = replicate 4 0;
      iv = context.iv;
      tag = replicate 16 0;
    }

-- a page that was sealed: the words of its ciphertext, and its entry
pub record SealedPage : Type 0 where
  pub words : List ℕ
  pub entry : MetaEntry

-- words that are sealed under a key and an entry, which gets the tag
unfoldable pub sealed : List ℕ → MetaEntry → List ℕ → SealedPage
sealed key entry words =
    let made = seal key (iv_of entry.iv) (aad_of entry) (page_bytes words) in
    record { words = words_of_bytes made.0; entry = record entry { tag = made.1 } }

-- a guest's page that is sealed under its context
abbrev pub sealed_page : Context → RmpEntry → List ℕ → SealedPage
sealed_page context facts words = sealed context.key (page_entry context facts) words

-- a metadata page that is sealed under a guest's context
abbrev pub sealed_metadata : Context → List ℕ → SealedPage
sealed_metadata context words = sealed context.key (metadata_entry context) words

-- the tag of a ciphertext under a key and an entry
unfoldable pub found_tag : List ℕ → MetaEntry → List ℕ → List ℕ
found_tag key entry words = tag key (iv_of entry.iv) (aad_of entry) (page_bytes words)

-- the words of a ciphertext under a key and an entry
unfoldable pub opened_words : List ℕ → MetaEntry → List ℕ → List ℕ
opened_words key entry words = words_of_bytes (plain key (iv_of entry.iv) (page_bytes words))

-- a page that is opened with its entry under a context: its words, or both tags where they differ
unfoldable pub opened : Context → MetaEntry → List ℕ → Result (List ℕ) FwRefusal
opened context entry words =
    let found = found_tag context.key entry words in
    if bytes_eq found entry.tag then Ok (opened_words context.key entry words) else Err (BadTag found entry.tag)
