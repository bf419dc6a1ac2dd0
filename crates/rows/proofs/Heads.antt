-- The lengths in an entry's head, and the places of its parts.
-- Assumes nothing.
use Prim.Native.Nat.{ℕ, ◌+◌, ◌-◌, ◌≤◌, ◌<◌}
use mathlib.Core.Path.{◌≡◌, sym, ap, ◌∙◌}
use mathlib.Core.List.{List}
use native.Mathlib.Omega.{arith}
use lib.ListN.{length, get_or, take, drop, length-drop}
use lib.Seq.{get_or-drop}
use Rattle.lists.proofs.Moves.{ap_at}
use Rattle.bits.specs.Bits.{number_at}
use Rattle.rows.specs.Entry.{head_len, name_len, rest_len, size, Shaped, Placed}
use Rattle.rows.specs.declared.Kind.{Kind}
use Rattle.rows.specs.declared.Shape.{Shape}
use Rattle.rows.specs.declared.Kind.TheVariants.{Text, Property, Run, Reply}

module _ (l : List ℕ) (p : ℕ) where
  -- two bytes as code takes them
  two : take (p + 2 - p) (drop p l) ≡ take 2 (drop p l)
  two = ap_at (λ i. take i (drop p l)) (p + 2 - p) 2 (omega arith)

  pub text_shaped : (s : Shape) → s.name ≡ get_or l p 0 → s.rest ≡ 0 → s.name < 256 → Shaped Text (drop p l) s
  unfolding name_len rest_len
  text_shaped s e f k = record { name = e ∙ ap_at (λ i. get_or l i 0) p (p + 0) (omega arith) ∙ sym (get_or-drop p l 0 0); rest = f; few = omega arith }

  pub property_shaped : (s : Shape) → let head = take (p + 2 - p) (drop p l) in s.name ≡ number_at head 0 7 → s.rest ≡ number_at head 7 9 → s.name < 128 → s.rest < 512
      → Shaped Property (drop p l) s
  unfolding name_len rest_len
  property_shaped s e f k j =
      record {
        name = e ∙ ap (λ (x : List ℕ). number_at x 0 7) two;
        rest = f ∙ ap (λ (x : List ℕ). number_at x 7 9) two;
        few = omega arith;
      }

  pub run_shaped : (s : Shape) → s.name ≡ number_at (take (p + 2 - p) (drop p l)) 6 9 → s.rest ≡ 0 → s.name < 512 → Shaped Run (drop p l) s
  unfolding name_len rest_len
  run_shaped s e f k = record { name = e ∙ ap (λ (x : List ℕ). number_at x 6 9) two; rest = f; few = omega arith }

  -- three bytes as code takes them
  three : take (p + 3 - p) (drop p l) ≡ take 3 (drop p l)
  three = ap_at (λ i. take i (drop p l)) (p + 3 - p) 3 (omega arith)

  pub reply_shaped : (s : Shape) → let head = take (p + 3 - p) (drop p l) in s.name ≡ number_at head 1 10 → s.rest ≡ number_at head 11 10 → s.name < 1024 → s.rest < 1024
      → Shaped Reply (drop p l) s
  unfolding name_len rest_len
  reply_shaped s e f k j =
      record {
        name = e ∙ ap (λ (x : List ℕ). number_at x 1 10) three;
        rest = f ∙ ap (λ (x : List ℕ). number_at x 11 10) three;
        few = omega arith;
      }

-- ---- the places of the parts, from the lengths

head_more : (kind : Kind) → 0 < head_len kind
head_more Text = omega arith
head_more Property = omega arith
head_more Run = omega arith
head_more Reply = omega arith

module _ (kind : Kind) (l : List ℕ) (p : ℕ) where
  pub head_in : size kind (drop p l) ≤ length (drop p l) → p + head_len kind ≤ length l
  head_in h = omega (arith, length-drop p l, head_more kind)

  pub placed : (head : ℕ) (s : Shape) → head ≡ head_len kind → Shaped kind (drop p l) s → size kind (drop p l) ≤ length (drop p l)
      → Placed kind l p (record { name = p + head; rest = p + head + s.name; end = p + head + s.name + s.rest })
  placed head s e w h =
      record {
        start = ap (λ (i : ℕ). p + i) e;
        middle = ap (λ (i : ℕ). p + head + i) w.name;
        end = ap (λ (i : ℕ). p + head + s.name + i) w.rest;
        within = omega (arith, length-drop p l, head_more kind, w.name, w.rest);
      }
