-- A record that is converted and converted back is the first one again, by what the exported functions write.
-- Assumes nothing.
use Prim.Native.Nat.{ℕ, ◌-◌}
use mathlib.Core.Path.{◌≡◌, sym, ap, ap₂, ◌∙◌}
use mathlib.Core.List.{List}
use lib.ListN.{length, take, replicate}
use lib.Seq.{take-append_seam}
use Rattle.text.specs.Run.{Answer, acceptance}
use Rattle.engine.specs.Convert.{newer, older}
use Rattle.engine.proofs.Convert as convert
use Rattle.spillfinch.specs.Exports.{Gives}
use Rattle.spillfinch.specs.Joined.{number_in, used_in}
use Rattle.spillfinch.specs.Converted.{left_in, Leaves, ThereAndBack}

-- what an answer says, by what is written of it
number_of : (w t : List ℕ) (a : Answer) → Gives w t a → number_in w ≡ a.number
number_of w t a g = ap number_in g.0

left_of_lem : (w t : List ℕ) (a : Answer) → Gives w t a → left_in w t ≡ convert.left a
left_of_lem w t a g = ap₂ (λ (x y : List ℕ). take (used_in x) y) g.0 g.1

-- an acceptance leaves what was made
leaves : (w t made : List ℕ) (a : Answer) (room : ℕ) → Gives w t a → a ≡ acceptance room 0 0 made → Leaves w t made
leaves w t made a room g e =
    (number_of w t a g ∙ ap (λ (x : Answer). x.number) e, left_of_lem w t a g ∙ ap convert.left e ∙ take-append_seam made (replicate (room - length made) 0))

pub there_and_back : ThereAndBack
there_and_back =
    record {
      old_new_old = λ dev out room r w t w' t' by g e h g'.
          leaves w' t' out (older dev (left_in w t) r) r g'
          (ap (λ (x : List ℕ). older dev x r) (left_of_lem w t (newer dev out room) g)
          ∙ convert.old_new_old dev out room by (sym (number_of w t (newer dev out room) g) ∙ e) r h);
      new_old_new = λ dev out room r w t w' t' by g e h g'.
          leaves w' t' out (newer dev (left_in w t) r) r g'
          (ap (λ (x : List ℕ). newer dev x r) (left_of_lem w t (older dev out room) g)
          ∙ convert.new_old_new dev out room by (sym (number_of w t (older dev out room) g) ∙ e) r h);
    }
