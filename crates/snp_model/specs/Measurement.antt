-- The launch measurement: PAGE_INFO of SNP_LAUNCH_UPDATE (SEV-SNP firmware ABI 56860, 8.17), in the layout
-- that this project writes down below, and the chain of digests over the launched pages.
-- SHA-384 is that of FIPS 180-4.
use Rattle.std.specs.Prelude.{◌≡◌, ◌⊎◌, ℕ, ◌*◌, Bool, List, ◌∷◌, [], ◌++◌, ◌==◌, if◌then◌else◌, fold, replicate, slice_index}
use Rattle.std.specs.Int.{w16, w64, to_le_bytes}
use Rattle.std.specs.List.{flat_map}
use Rattle.sha2.specs.Sha512.{sha384}

-- a launched page: `perms` are the permissions of VMPL1, VMPL2 and VMPL3, and `words` the page's 512 words
pub record LaunchedPage : Type 0 where
  pub page_type : ℕ
  pub imi : Bool
  pub perms : List ℕ
  pub gpn : ℕ
  pub words : List ℕ

-- the page types that this project launches: 1 is NORMAL, 3 is ZERO, 4 is UNMEASURED
abbrev pub IsLaunchType : ℕ → Type 0
IsLaunchType page_type = (page_type ≡ 1) ⊎ (page_type ≡ 3) ⊎ (page_type ≡ 4)

-- the 4,096 bytes of a page: its words one after another, each low byte first
unfoldable pub page_bytes : List ℕ → List ℕ
page_bytes words = flat_map (to_le_bytes w64) words

-- the field CONTENTS: the digest of a NORMAL page's bytes, and 48 zero bytes for ZERO and UNMEASURED
unfoldable pub page_contents : ℕ → List ℕ → List ℕ
page_contents page_type words = if page_type == 1 then sha384 (page_bytes words) else replicate 48 0

-- PAGE_INFO of a page, 112 bytes: offset, length and name of each field
unfoldable pub page_info : List ℕ → LaunchedPage → List ℕ
page_info digest page =
    digest  -- 0x00, 48 bytes: the digest so far
    ++ page_contents page.page_type page.words  -- 0x30, 48 bytes: contents
    ++ to_le_bytes w16 0x0070  -- 0x60, 2 bytes, low byte first: the length of PAGE_INFO
    ++ (page.page_type  -- 0x62, 1 byte: the page type
    ∷ (if page.imi then 1 else 0)  -- 0x63, 1 byte: the IMI flag
    ∷ slice_index page.perms 2  -- 0x64, 1 byte: the permissions of VMPL3
    ∷ slice_index page.perms 1  -- 0x65, 1 byte: the permissions of VMPL2
    ∷ slice_index page.perms 0  -- 0x66, 1 byte: the permissions of VMPL1
    ∷ 0 ∷ [])  -- 0x67, 1 byte: 0
    ++ to_le_bytes w64 (page.gpn * 4096)  -- 0x68, 8 bytes, low byte first: the guest physical address

-- the digest after one more page: of the page's PAGE_INFO, which begins with the digest so far
abbrev pub digest_after : List ℕ → LaunchedPage → List ℕ
digest_after digest page = sha384 (page_info digest page)

-- the launch digest of the pages launched so far, in order: 48 zero bytes before the first
abbrev pub measure : List LaunchedPage → List ℕ
measure pages = fold digest_after (replicate 48 0) pages
