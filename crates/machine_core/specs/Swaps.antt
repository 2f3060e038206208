-- What the commit of a command that seals or opens a page makes of memory, and what it shows, by what is sealed or opened (this project's own).
use Rattle.snp_model.specs.declared.event.Deed.{Deed}
use Rattle.snp_model.specs.FirmwareStep.{small_shown}
use Rattle.snp_model.specs.Sealing.{Sealing, SealOut, SealIn, pages_in, pages_out}
use Rattle.snp_model.specs.State.{Computed, Pages}
use Rattle.machine_core.specs.Seals.{gpn_shown}

-- memory after it
abbrev pub swapped_pages : Sealing → Computed → Pages → Pages
swapped_pages (SealOut what guest source target slot) made pages = pages_out what source target slot made pages
swapped_pages (SealIn what guest source target slot) made pages = pages_in what target slot made pages

-- what it shows, by memory before and after it: the page that was sealed, or that which was opened
abbrev pub swap_deed : Sealing → Pages → Pages → Deed
swap_deed (SealOut what guest source target slot) before left = small_shown source (gpn_shown what (before source))
swap_deed (SealIn what guest source target slot) before left = small_shown target (gpn_shown what (left target))
