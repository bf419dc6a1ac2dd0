-- `plan_due::differs` meets its contract.
use Prim.Native.Nat.{ℕ}
use mathlib.Core.Bool.{Bool, true, false, not, ◌&&◌}
use mathlib.Core.List.{List}
use mathlib.Core.Path.{◌≡◌, sym, ap, ◌∙◌}
use Rattle.lists.specs.Bytes.{same_bytes}
use Rattle.plan_due.proofs.differs.Goals as goal

pub returns-then-not-same : goal.returns-then-not-same
returns-then-not-same c =
    λ d e.
    let path : same_bytes d.event.path c.args.path.now ≡ false = ap (λ (x : List ℕ). same_bytes x c.args.path.now) (sym (c.event_path.ensures d e)) ∙ sym c.same.ensures ∙ c.if-not-same.true in
    ap not c.same-then-not-same.ensures ∙ sym (ap (λ (t : Bool). not t && not (same_bytes c.args.wanted.now c.args.link.now)) path)

pub returns-else-not-same : goal.returns-else-not-same
returns-else-not-same c =
    λ d e.
    let path : same_bytes d.event.path c.args.path.now ≡ true = ap (λ (x : List ℕ). same_bytes x c.args.path.now) (sym (c.event_path.ensures d e)) ∙ sym c.same.ensures ∙ c.if-not-same.false in
    ap not c.if-not-same.false ∙ sym (ap (λ (t : Bool). not t && not (same_bytes c.args.wanted.now c.args.link.now)) path)
