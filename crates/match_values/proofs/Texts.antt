-- A pattern and the texts of a row: a turn of the loop that looks for one that matches. A plain pattern.
-- Assumes nothing.
use Prim.Native.Nat.{ℕ, zero, suc, ◌-◌, ◌<◌}
use mathlib.Core.Path.{◌≡◌, sym, ◌∙◌}
use mathlib.Core.Bool.{Bool, true, false, ◌||◌}
use mathlib.Core.List.{List}
use native.Mathlib.Nat.{not-suc-le-zero}
use native.Mathlib.Omega.{arith}
use lib.ListN.{take, drop}
use Rattle.lists.proofs.Moves.{ap_at}
use Rattle.lists.specs.Bytes.{same_bytes}
use Rattle.pattern.specs.Pattern.{matches}
use Rattle.pattern.proofs.Plain.{plain-matches}
use Rattle.glob.specs.Plain.{PlainIf}
use Rattle.rows.specs.Entry.{size, name, Placed}
use Rattle.rows.specs.Row.{names}
use Rattle.rows.specs.declared.Kind.{Kind}
use Rattle.rows.specs.declared.Entry.{Entry}
use Rattle.rows.proofs.Turns.{place-name, place-next}
use Rattle.engine.specs.Match.{some_matches}

some_first : (kind : Kind) (pattern : List ℕ) (left : ℕ) (bs : List ℕ) → 0 < left
    → some_matches pattern (names kind left bs) ≡ (matches pattern (name kind bs) || some_matches pattern (names kind (left - 1) (drop (size kind bs) bs)))
some_first kind pattern zero bs h = absurd (not-suc-le-zero h)
some_first kind pattern (suc n) bs h =
    ap_at (λ i. matches pattern (name kind bs) || some_matches pattern (names kind i (drop (size kind bs) bs))) n (suc n - 1) (omega arith)

module _ (kind : Kind) (pattern l : List ℕ) (p left : ℕ) (e : Entry) (w : Placed kind l p e) (h : 0 < left) where
  some_turn :
      some_matches pattern (names kind left (drop p l))
      ≡ (matches pattern (take (e.rest - e.name) (drop e.name l)) || some_matches pattern (names kind (left - 1) (drop e.end l)))
  some_turn = some_first kind pattern left (drop p l) h ∙ rw (sym (place-name kind l p e w), sym (place-next kind l p e w))

  pub some-here : matches pattern (take (e.rest - e.name) (drop e.name l)) ≡ true → some_matches pattern (names kind left (drop p l)) ≡ true
  some-here t = some_turn ∙ rw t

  pub some_next : matches pattern (take (e.rest - e.name) (drop e.name l)) ≡ false
      → some_matches pattern (names kind left (drop p l)) ≡ some_matches pattern (names kind (left - 1) (drop e.end l))
  some_next t = some_turn ∙ rw t

-- document 02, Item 3: a match value that is marked as plain matches the bytes equal to it
pub plain-same : (plain : Bool) (pattern value : List ℕ) → PlainIf plain pattern → plain ≡ true → same_bytes pattern value ≡ matches pattern value
plain-same plain pattern value marked t = sym (plain-matches pattern value (marked t))
