use Rattle.text_laws.proofs.CutLaws.{front_refused, front_unread}
use Rattle.text_laws.proofs.cut.cut_texts.Goals as goal

pub returns-clause-refused : goal.returns-clause-refused
returns-clause-refused c = front_refused

pub returns-clause-unread : goal.returns-clause-unread
returns-clause-unread c = front_unread
