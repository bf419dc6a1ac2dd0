-- A plan, line by line, and a line part by part.
-- Assumes nothing.
use Prim.Native.Nat.{ℕ, suc, ◌+◌, ◌≤◌, ◌<◌}
use mathlib.Core.Path.{◌≡◌, refl, sym, ap, ap₂, ◌∙◌, subst}
use mathlib.Core.List.{List, [], ◌∷◌, ◌++◌, append_assoc}
use Rattle.std.specs.Prelude.{Some}
use native.Mathlib.Omega.{arith}
use lib.ListN.{length}
use Rattle.lists.specs.Quoted.{bytes}
use Rattle.device.specs.Device as D
use Rattle.device_lookup.specs.Lookup.{OfDevice}
use Rattle.insertion.specs.Append.{Placed}
use Rattle.rule_writing.proofs.Writes.{Writes, writes-from, writes_as, writes_more, writes_end, part_room}
use Rattle.set_rows.specs.Places.{bytes_in}
use Rattle.plan.specs.Plan.{Naming, path_of, plan_rule, plan_text}
use Rattle.plan_rows.specs.declared.WishPlace.{WishPlace}
use Rattle.plan_rows.specs.Namings.{namings_in, Whole}
use Rattle.plan_rows.proofs.Walk.{Walking, Here}
use Rattle.planner.specs.Lines.{plan_line}

-- ---- a line

-- `DEVPATH=="`
abbrev pub opening : List ℕ
opening = 68 ∷ 69 ∷ 86 ∷ 80 ∷ 65 ∷ 84 ∷ 72 ∷ 61 ∷ 61 ∷ 34 ∷ []

-- `",SYMLINK="`
abbrev pub middle : List ℕ
middle = 34 ∷ 44 ∷ 83 ∷ 89 ∷ 77 ∷ 76 ∷ 73 ∷ 78 ∷ 75 ∷ 61 ∷ 34 ∷ []

abbrev pub closing : List ℕ
closing = 34 ∷ 10 ∷ []

pub line-parts : (path link : List ℕ) → opening ++ (path ++ (middle ++ (link ++ closing))) ≡ plan_line path link
unfolding bytes plan_rule
line-parts path link = simp append_assoc refl

-- ---- all lines

-- of the plan for a set, the lines of these namings are still to come
abbrev pub Left : List ℕ → List ℕ → List ℕ → ℕ → List Naming → Type 0
Left set l₀ l u ms = Writes (plan_text (namings_in set)) l₀ 0 (plan_text ms) l u

pub plan-first : (set l : List ℕ) (n : ℕ) → Whole set → n ≡ length (namings_in set) → Walking (Left set l l 0) set 1 n
plan-first set l n w e = record { namings = namings_in set; standing = w.standing; counted = sym e; so_far = writes-from refl (omega arith) }

module _ (set l₀ l : List ℕ) (u : ℕ) (ms : List Naming) (w : Left set l₀ l u ms) (r : WishPlace) (here : Here set r ms) where
  -- the first of them
  here-first : Writes (plan_text (namings_in set)) l₀ 0 (plan_line (path_of here.naming) here.naming.link ++ plan_text here.others) l u
  unfolding plan_text
  here-first = writes_as (sym (ap plan_text here.split)) w

  module _ (dev path link : List ℕ) (i : dev ≡ bytes_in set r.device) (j : link ≡ bytes_in set r.link) (k : OfDevice dev (λ d. path ≡ d.event.path)) where
    same_line : plan_line path link ≡ plan_line (path_of here.naming) here.naming.link
    same_line = ap₂ plan_line (k here.naming.device (ap D.decode (i ∙ here.device) ∙ here.sound)) (j ∙ here.link)

    line-here : Writes (plan_text (namings_in set)) l₀ 0 (plan_line path link ++ plan_text here.others) l u
    line-here = writes_as (ap (λ (x : List ℕ). x ++ plan_text here.others) same_line) here-first

    pub line_room : length (plan_text (namings_in set)) ≤ length l₀ → u + length (plan_line path link) ≤ length l
    line_room h = part_room (plan_line path link) (plan_text here.others) line-here (omega (arith, h))

    pub line-next : (v : ℕ) (l' : List ℕ) → Placed (plan_line path link) l u v l' → (m : ℕ) → length ms ≡ suc m → Walking (Left set l₀ l' v) set r.link.end m
    line-next v l' p m e = record {
      namings = here.others;
      standing = here.behind;
      counted = omega (arith, ap length here.split, e);
      so_far = writes_more (plan_line path link) (plan_text here.others) line-here p;
    }

pub plan_last : (set l₀ l : List ℕ) (u : ℕ) → Left set l₀ l u [] → Placed (plan_text (namings_in set)) l₀ 0 u l
unfolding plan_text
plan_last set l₀ l u w = writes_end w
