-- The entry of a page that was sealed: its fields, and what it seals.
use Rattle.std.proofs.Common.{◌≡◌, ◌^◌, ◌<◌, refl, arith}
use Rattle.snp_model.specs.declared.firmware.MetaEntry.{MetaEntry}
use Rattle.snp_model.specs.Gcm.{seal}
use Rattle.snp_model.specs.Metadata.{AreBytes, IsMetaEntry, aad_of, page_entry, metadata_entry, sealed}
use Rattle.snp_model.specs.Sealing.{What, GuestPage, MetadataPage, sealed_as}
use Rattle.snp_model.specs.State.{Page, Context}
use Rattle.snp_model.proofs.PageBytesLaws.{are_zeros}
use Rattle.run_laws.specs.Shapes.{AreInRange}
use Rattle.run_laws.specs.Uniqueness.{IsFull, IsSealOf}
use Rattle.run_laws.proofs.SealingTests.{kind_of}
use Rattle.run_laws.proofs.SealLaws.{sealed_full}
use Rattle.run_laws.proofs.TagLaws.{length-tag, tag_bytes}

-- the entry under which a page is sealed
abbrev pub fresh_of : What → Context → Page → MetaEntry
fresh_of what context page = (sealed_as what context page).entry

-- the numbers of a context fit in an entry
pub record IsFitContext (context : Context) : Type 0 where
  pub asid : context.asid < 2 ^ 16
  pub counter : context.iv < 2 ^ 64
  pub key : AreBytes context.key

pub fresh_counter : (what : What) (context : Context) (page : Page) → (fresh_of what context page).iv ≡ context.iv
unfolding sealed page_entry metadata_entry
fresh_counter GuestPage context page = refl
fresh_counter MetadataPage context page = refl

pub fresh_asid : (what : What) (context : Context) (page : Page) → (fresh_of what context page).asid ≡ context.asid
unfolding sealed page_entry metadata_entry
fresh_asid GuestPage context page = refl
fresh_asid MetadataPage context page = refl

pub fresh_kind : (what : What) (context : Context) (page : Page) → (fresh_of what context page).kind ≡ kind_of what
unfolding sealed page_entry metadata_entry
fresh_kind GuestPage context page = refl
fresh_kind MetadataPage context page = refl

pub fresh_gpn : (context : Context) (page : Page) → (fresh_of GuestPage context page).gpn ≡ page.facts.gpn
unfolding sealed page_entry
fresh_gpn context page = refl

pub fresh_validated : (context : Context) (page : Page) → (fresh_of GuestPage context page).validated ≡ page.facts.validated
unfolding sealed page_entry
fresh_validated context page = refl

-- its fields are in their ranges
pub fresh_fits : (what : What) (context : Context) (page : Page) → IsFitContext context → AreInRange page.facts → IsMetaEntry (fresh_of what context page)
unfolding sealed seal page_entry metadata_entry
fresh_fits GuestPage context page fits ranges = record {
  kind = omega arith;
  asid = fits.asid;
  gpn = ranges.gpn;
  perms_count = ranges.perms_count;
  perms = ranges.perms;
  iv = fits.counter;
  tag_count = length-tag context.key _ _ _;
  tag = tag_bytes context.key _ _ _ fits.key;
}
fresh_fits MetadataPage context page fits ranges = record {
  kind = omega arith;
  asid = fits.asid;
  gpn = omega arith;
  perms_count = refl;
  perms = are_zeros 4;
  iv = fits.counter;
  tag_count = length-tag context.key _ _ _;
  tag = tag_bytes context.key _ _ _ fits.key;
}

-- it seals the page's words
pub fresh_seals : (what : What) (context : Context) (page : Page) → IsFull page.words
    → IsSealOf context.key (record { words = page.words; cipher = (sealed_as what context page).words }) (fresh_of what context page)
unfolding sealed aad_of page_entry metadata_entry
fresh_seals GuestPage context page full = record { cipher = refl; tag = refl; full = full }
fresh_seals MetadataPage context page full = record { cipher = refl; tag = refl; full = full }

-- and the ciphertext is full
pub cipher_full : (what : What) (context : Context) (page : Page) → IsFitContext context → IsFull page.words → IsFull (sealed_as what context page).words
cipher_full GuestPage context page fits full = sealed_full context.key (page_entry context page.facts) page.words fits.key full
cipher_full MetadataPage context page fits full = sealed_full context.key (metadata_entry context) page.words fits.key full
