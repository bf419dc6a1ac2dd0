-- `glob::is_plain` meets its contract.
use Prim.Native.Nat.{ℕ}
use mathlib.Core.Path.{◌≡◌}
use mathlib.Core.Bool.{true, not}
use mathlib.Core.Logic.{◌⊎◌, ⊎_elim, inl, inr}
use borrow.Author.Tests.{ne_eqb}
use Rattle.pattern.specs.Pattern.{is_special}
use Rattle.glob.proofs.is_plain.Goals as goal

plain : (b : ℕ) → ((b ≡ 42) ⊎ ((b ≡ 63) ⊎ ((b ≡ 91) ⊎ (b ≡ 124))) → ⊥) → true ≡ not (is_special b)
plain b n =
    rw (ne_eqb b 42 (λ e. n (inl e)), ne_eqb b 63 (λ e. n (inr (inl e))), ne_eqb b 91 (λ e. n (inr (inr (inl e)))), ne_eqb b 124 (λ e. n (inr (inr (inr e)))))

pub returns-in-42 : goal.returns-in-42
returns-in-42 c = ⊎_elim (λ w. rw w) (⊎_elim (λ w. rw w) (⊎_elim (λ w. rw w) (λ w. rw w))) c.in-42.is

pub returns-in-97-to-122 : goal.returns-in-97-to-122
returns-in-97-to-122 c = plain _ c.in-97-to-122.in_default-own.rest.1

pub returns-in-97-to-122-2 : goal.returns-in-97-to-122-2
returns-in-97-to-122-2 c = plain _ c.in-97-to-122.in_default-own.rest.1

pub returns-in-97-to-122-3 : goal.returns-in-97-to-122-3
returns-in-97-to-122-3 c = plain _ c.in-97-to-122.in_default-own.rest.1

pub returns-in_default : goal.returns-in_default
returns-in_default c = plain _ c.in_default.in_default-own.rest.1

pub returns-in_default-2 : goal.returns-in_default-2
returns-in_default-2 c = plain _ c.in_default.in_default-own.rest.1

pub returns-in_default-3 : goal.returns-in_default-3
returns-in_default-3 c = plain _ c.in_default.in_default-own.rest.1

pub returns-in_default-4 : goal.returns-in_default-4
returns-in_default-4 c = plain _ c.in_default.in_default-own.rest.1
