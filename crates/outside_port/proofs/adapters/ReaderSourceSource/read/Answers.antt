use Rattle.std.proofs.Common.{◌≡◌, ◌↔◌, ℕ, ◌<◌, ◌≤◌, List, [], ◌++◌, length, take, Option, Some, None, IfSome, ap, subst, ◌∙◌, arith, length-append, length-take}
use Rattle.std.specs.Io.KnownBytes.{Consumes, IsAtEnd}
use Rattle.outside_port.specs.Adapters.{Inlet}
use Rattle.outside_port.proofs.adapters.ReaderSourceSource.read.Goals as goal

ends_where_empty : (old now : Option (List ℕ)) (n : ℕ) (room buf : List ℕ) → length room ≡ length buf → n ≤ length buf → Consumes old now (take n buf) → (n ≡ 0 → 0 < length buf → IsAtEnd now) → IfSome old (λ left. 0 < length room → ((n ≡ 0) ↔ (left ≡ [])))
ends_where_empty None now n room buf same within takes end = tt
ends_where_empty (Some left) None n room buf same within takes end = absurd takes
ends_where_empty (Some left) (Some rest) n room buf same within takes end = λ some. (
  λ zero. let e : rest ≡ [] = end zero (omega arith) in takes ∙ ap (λ (m : ℕ). take m buf ++ rest) zero ∙ e,
  λ none. let e : length left ≡ 0 = ap length none in omega (arith, ap length takes, length-append (take n buf) rest, length-take n buf),
)

pub returns-in-Ok-clause-end : goal.returns-in-Ok-clause-end
returns-in-Ok-clause-end g c =
    let before : g.R.Read.remaining c.self.inside.reader ≡ c.args.self.now.left = ap (λ (s : Inlet). s.left) c.self.view_is in
    subst (λ (left : Option (List ℕ)). IfSome left (λ left. 0 < length c.args.buf.now → ((c.in-Ok.count ≡ 0) ↔ (left ≡ [])))) before
    (ends_where_empty _ _ c.in-Ok.count c.args.buf.now c.read.new.buf (omega arith) (omega (arith, c.in-Ok.ensures.bound)) c.in-Ok.ensures.bytes.0 c.in-Ok.ensures.bytes.1)
