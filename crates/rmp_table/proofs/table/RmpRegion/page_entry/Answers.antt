use Rattle.rmp_table.proofs.EntryLaws.{page_large, page_small}
use Rattle.rmp_table.proofs.table.RmpRegion.page_entry.Goals as goal

pub returns-in-Small-clause-entry : goal.returns-in-Small-clause-entry
returns-in-Small-clause-entry c = (page_small _ _ _ _ c.args.slot _ c.in-Small.is c.self.invariant c.self.view_is c.requires c.effective.ensures).entry_is

pub returns-in-Small-clause-size : goal.returns-in-Small-clause-size
returns-in-Small-clause-size c = (page_small _ _ _ _ c.args.slot _ c.in-Small.is c.self.invariant c.self.view_is c.requires c.effective.ensures).size_is

pub returns-in-Small-clause-large : goal.returns-in-Small-clause-large
returns-in-Small-clause-large c = (page_small _ _ _ _ c.args.slot _ c.in-Small.is c.self.invariant c.self.view_is c.requires c.effective.ensures).large

pub returns-in-Large-clause-entry : goal.returns-in-Large-clause-entry
returns-in-Large-clause-entry c = (page_large _ _ _ _ c.args.slot _ c.in-Large.is c.self.invariant c.self.view_is c.requires c.effective-in-Large.ensures).entry_is

pub returns-in-Large-clause-size : goal.returns-in-Large-clause-size
returns-in-Large-clause-size c = (page_large _ _ _ _ c.args.slot _ c.in-Large.is c.self.invariant c.self.view_is c.requires c.effective-in-Large.ensures).size_is

pub returns-in-Large-clause-large : goal.returns-in-Large-clause-large
returns-in-Large-clause-large c = (page_large _ _ _ _ c.args.slot _ c.in-Large.is c.self.invariant c.self.view_is c.requires c.effective-in-Large.ensures).large
