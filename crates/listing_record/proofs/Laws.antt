-- What the bytes of a held record say of its mode, owner, group and watch, and the lines of these.
-- Assumes nothing.
use Prim.Native.Nat.{ℕ, ◌+◌, ◌-◌, ◌≤◌}
use mathlib.Core.Path.{◌≡◌, refl, ap, ◌∙◌}
use mathlib.Core.List.{List, [], ◌∷◌, ◌++◌, append_assoc}
use Rattle.std.specs.Prelude.{Option, None, Some}
use native.Mathlib.Omega.{arith}
use borrow.Author.Tests.{eq-eqb, ne_eqb}
use lib.ListN.{length, take, drop, length-append}
use lib.Seq.{take_at}
use Rattle.lists.specs.Lists.{cat}
use Rattle.lists.specs.Quoted.{bytes}
use Rattle.lists.proofs.Moves.{ap_at}
use Rattle.bits.specs.Bits.{number_at}
use Rattle.outcome.specs.Head.{Head, header_size}
use Rattle.outcome.specs.State.{State, mode_set, mode_bits}
use Rattle.engine.specs.Operations.{Command}
use Rattle.engine.specs.Listing.{line_of, four_octal, mode_line, watch_line, command_line, listing_of}
use Rattle.outcome_target.specs.Layout.{layout_of}
use Rattle.outcome_target.specs.Held.{Held}
use Rattle.outcome_target.specs.declared.Layout.{Layout}
use Rattle.outcome_target.proofs.Facts.{held_number, held_head, held-part, held-rising, held-size}
use Rattle.outcome_target.proofs.Frames.{owner-frame, group-frame}
use Rattle.listing_record.specs.Lines.{record_lines}

-- ---- the lines of the record, then those of the commands

pub listing-parts : (visited tried : ℕ) (s : State) (cs : List Command) → record_lines visited tried s ++ cat command_line cs ≡ listing_of visited tried s cs
unfolding listing_of bytes
listing-parts visited tried s cs = simp append_assoc

-- ---- mode

pub mode-unset : (m : Option ℕ) (set : ℕ) → set ≡ mode_set m → set ≡ 0 → [] ≡ mode_line m
unfolding bytes
mode-unset None set e z = refl
mode-unset (Some m) set e z = absurd (omega arith)

pub mode-set : (m : Option ℕ) (set mode : ℕ) → set ≡ mode_set m → (set ≡ 0 → ⊥) → mode ≡ mode_bits m
    → line_of (109 ∷ 111 ∷ 100 ∷ 101 ∷ []) (four_octal mode) ≡ mode_line m
unfolding bytes
mode-set None set mode e z b = absurd (z e)
mode-set (Some m) set mode e z b = rw b refl

-- ---- watch

pub watch_line_lem : (w : ℕ) → w ≡ 1 → bytes "watch\n" ≡ watch_line w
unfolding bytes
watch_line_lem w e = rw (eq-eqb w 1 e)

pub nowatch_line : (w : ℕ) → w ≡ 2 → bytes "nowatch\n" ≡ watch_line w
unfolding bytes
nowatch_line w e = rw (ne_eqb w 1 (λ h. omega (arith, e, h)), eq-eqb w 2 e)

pub no_line : (w : ℕ) → (w ≡ 1 → ⊥) → (w ≡ 2 → ⊥) → [] ≡ watch_line w
unfolding bytes
no_line w d e = rw (ne_eqb w 1 d, ne_eqb w 2 e)

-- ---- fields and parts

module _ (n : ℕ) (l : List ℕ) (lay : Layout) (s : State) (w : Held n l lay s) where
  pub mode-flag : number_at l 22 1 ≡ mode_set s.mode
  mode-flag = held_number n l lay s w 22 1 (omega arith) ∙ ap (λ (h : Head). h.mode_set) (held_head n l lay s w)

  pub mode_bits_lem : number_at l 23 12 ≡ mode_bits s.mode
  mode_bits_lem = held_number n l lay s w 23 12 (omega arith) ∙ ap (λ (h : Head). h.mode) (held_head n l lay s w)

  pub watch_is : number_at l 98 2 ≡ s.watch
  watch_is = held_number n l lay s w 98 2 (omega arith) ∙ ap (λ (h : Head). h.watch) (held_head n l lay s w)

  owner-length : number_at l 10 6 ≡ length s.owner
  owner-length = held_number n l lay s w 10 6 (omega arith) ∙ ap (λ (h : Head). h.owner) (held_head n l lay s w)

  group-length : number_at l 16 6 ≡ length s.group
  group-length = held_number n l lay s w 16 6 (omega arith) ∙ ap (λ (h : Head). h.group) (held_head n l lay s w)

  links-place : lay.links ≡ header_size + length s.output + length s.owner + length s.group
  unfolding layout_of
  links-place = ap (λ (x : Layout). x.links) w.layout

  -- owner and group stand right before the links
  pub names-within : (number_at l 16 6 + number_at l 10 6 ≤ lay.links) × (lay.links ≤ length l)
  names-within =
      let r = held-rising n l lay s w in
      (omega (arith, owner-length, group-length, links-place), omega (arith, r.links, r.properties, r.tags, r.runs, (held-size n l lay s w).1))

  module _ (g : ℕ) (e : g ≡ number_at l 16 6) where
    pub owner-text : (k : ℕ) → k ≡ number_at l 10 6 → take (lay.links - g - (lay.links - g - k)) (drop (lay.links - g - k) l) ≡ s.owner
    unfolding owner-frame
    owner-text k d =
        let at = lay.links - g - k in
        let size : lay.links - g - at ≡ length s.owner = omega (arith, e, d, owner-length, group-length, links-place) in
        ap_at (λ i. take i (drop at l)) (lay.links - g - at) (length s.owner) size
        ∙ ap (take (length s.owner)) (held-part n l lay s w owner-frame at (omega (arith, e, d, owner-length, group-length, links-place)))
        ∙ take_at s.owner _ (length s.owner) refl

    pub group-text : take (lay.links - (lay.links - g)) (drop (lay.links - g) l) ≡ s.group
    unfolding group-frame
    group-text =
        let at = lay.links - g in
        let size : lay.links - at ≡ length s.group = omega (arith, e, group-length, links-place) in
        ap_at (λ i. take i (drop at l)) (lay.links - at) (length s.group) size
        ∙ ap (take (length s.group)) (held-part n l lay s w group-frame at (omega (arith, e, group-length, links-place, length-append s.output s.owner)))
        ∙ take_at s.group _ (length s.group) refl
