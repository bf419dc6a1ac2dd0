-- What is shown of every key that closes holds of what calls of `spillfinch_run` write.
-- Assumes nothing.
use Prim.Native.Nat.{ℕ}
use mathlib.Core.Path.{◌≡◌, sym, ap, ap₂, ◌∙◌, subst}
use mathlib.Core.List.{List, [], ◌∷◌}
use Rattle.std.specs.Prelude.{Some}
use lib.ListN.{take}
use Rattle.sheet.specs.Sheet.{Sheet}
use Rattle.engine.specs.Operations.{decode_for}
use Rattle.closing.specs.Closing.{ClosingKey}
use Rattle.closing.specs.Dropping.{drop_text}
use Rattle.closing.specs.Promise.{Given, ClosedStays}
use Rattle.closing.proofs.Texts.{closed_means_closed}
use Rattle.spillfinch.specs.Exports.{RunGives}
use Rattle.spillfinch.specs.Joined.{number_in, used_in, Sound}
use Rattle.spillfinch.specs.Closed.{but_visited, StaysClosed, Closed}
use Rattle.spillfinch.proofs.Joined.{checked_accepted, accepted_checked}

-- the numbers that are written of an answer but for the visited count
abbrev others : Given → List ℕ
others a = a.number ∷ a.line ∷ a.used ∷ a.tried ∷ 0 ∷ 0 ∷ 0 ∷ []

stays_closed : (k : ClosingKey) (text dev out sheet : List ℕ) (a : Sheet) (room : ℕ) (x : Sound dev out) → ClosedStays k text dev out sheet x.device x.state room
    → (written target : List ℕ) → RunGives text dev out sheet room written target → StaysClosed k text dev out sheet x.device x.state room written target
stays_closed k text dev out sheet a room x stays written target (w, t) =
    record {
      kept = λ z.
          let (s, held, same) = stays.kept (sym (ap number_in w) ∙ z) in
          (s, subst (λ (bs : List ℕ). decode_for x.device bs ≡ Some s) (sym (ap₂ (λ (n b : List ℕ). take (used_in n) b) w t)) held, same);
      accepted = accepted_checked a (drop_text k text) stays.accepted;
      lines = stays.lines;
      dropped = λ written' target' g. (
        ap but_visited g.0 ∙ ap others stays.dropped ∙ sym (ap but_visited w),
        g.1 ∙ ap (λ (y : Given). y.bytes) stays.dropped ∙ sym t,
      );
    }

pub calls_closed : Closed
calls_closed k text dev out sheet a room written target c x bytes said closed =
    stays_closed k text dev out sheet a room x
    (closed_means_closed.shown k text dev out sheet x.device x.state a room (checked_accepted a text c) x.bytes bytes x.read x.held said closed)
    written target
