-- Output, owner and group of a held record set anew.
-- Assumes nothing.
use Prim.Native.Nat.{ℕ, ◌+◌, ◌-◌, ◌≤◌, ◌<◌}
use mathlib.Core.Path.{◌≡◌, refl, sym, ap, ap₂, ◌∙◌, subst}
use mathlib.Core.Bool.{true}
use mathlib.Core.List.{List, [], ◌++◌, append-nil}
use native.Mathlib.Omega.{arith}
use lib.ListN.{length, length-append}
use Rattle.lists.specs.Bytes.{Bytes}
use Rattle.splice.specs.Moves.{replaced}
use Rattle.bits.specs.Bits.{number_at, put_at}
use Rattle.outcome.specs.Head.{Head, header_size}
use Rattle.outcome.specs.Content.{ok_owner, ok_output}
use Rattle.outcome.specs.State.{State, encode}
use Rattle.outcome.specs.Change.{with_output, with_owner, with_group}
use Rattle.outcome.proofs.Change.{output_good, owner_good, group_good}
use Rattle.outcome.proofs.Fits.{encode-size, fits}
use Rattle.outcome_target.specs.Layout.{layout_of, Rising, all_moved}
use Rattle.outcome_target.specs.Held.{Held}
use Rattle.outcome_target.specs.declared.Layout.{Layout}
use Rattle.outcome_target.proofs.Frames.{output_frame, owner-frame, group-frame}
use Rattle.outcome_target.proofs.Edits.{layout_end}
use Rattle.outcome_target.proofs.Facts.{held_number, held_head, held-rising, held-size}
use Rattle.outcome_target.proofs.Changes.{part-replaced}

-- what the calls ask, where `old` bytes at `at` make room for k
pub record Fit (lay : Layout) (room at old k : ℕ) : Type 0 where
  pub within : at + old ≤ lay.end
  pub end : lay.end ≤ room
  pub fits : lay.end + k ≤ room + old
  pub rising : Rising lay
  pub before : old ≤ lay.links
  pub small : lay.end + k < 4294967296

links-place : (s : State) → (layout_of s).links ≡ header_size + length s.output + length s.owner + length s.group
unfolding layout_of
links-place s = refl

module _ (n : ℕ) (l : List ℕ) (lay : Layout) (s : State) (w : Held n l lay s) where
  end_is : lay.end ≡ length (encode s)
  end_is = ap (λ (j : Layout). j.end) w.layout ∙ layout_end s

  links-is : lay.links ≡ header_size + length s.output + length s.owner + length s.group
  links-is = ap (λ (j : Layout). j.links) w.layout ∙ links-place s

  owner-length : number_at l 10 6 ≡ length s.owner
  owner-length = held_number n l lay s w 10 6 (omega arith) ∙ ap (λ (h : Head). h.owner) (held_head n l lay s w)

  group-length : number_at l 16 6 ≡ length s.group
  group-length = held_number n l lay s w 16 6 (omega arith) ∙ ap (λ (h : Head). h.group) (held_head n l lay s w)

  output_length : number_at l 88 10 ≡ length s.output
  output_length = held_number n l lay s w 88 10 (omega arith) ∙ ap (λ (h : Head). h.output) (held_head n l lay s w)

  -- both stand before the links
  pub names-before : number_at l 16 6 + number_at l 10 6 ≤ lay.links
  names-before = omega (arith, owner-length, group-length, links-is)

  module _ (x : List ℕ) (k : ok_output x ≡ true) where
    pub output_fit : (old : ℕ) → old ≡ number_at l 88 10 → Fit lay (length l) header_size old (length x)
    output_fit old e =
        let r = held-rising n l lay s w in
        let z = held-size n l lay s w in
        let f = fits n (with_output s x) (output_good n s w.good x k) in
        record {
          within = omega (arith, output_length, links-is, r.links, r.properties, r.tags, r.runs);
          end = z.1;
          fits = omega (arith, output_length, end_is, encode-size s, encode-size (with_output s x), w.room);
          rising = r;
          before = omega (arith, output_length, links-is);
          small = omega (arith, z.0, encode-size (with_output s x));
        }

    pub output_set : (old : ℕ) (u v : List ℕ) (r : Layout) → old ≡ number_at l 88 10 → u ≡ replaced l header_size old lay.end x → Bytes u
        → v ≡ put_at u 88 10 (length x) → length v ≡ length l → r ≡ all_moved lay old (length x) → Held n v r (with_output s x)
    unfolding output_frame
    output_set old u v r e f b c m q =
        let d : old ≡ length s.output = e ∙ output_length in
        subst (λ (j : Layout). Held n v j (with_output s x)) (sym (q ∙ ap (λ (i : ℕ). all_moved lay i (length x)) d))
        (part-replaced n l lay s w output_frame [] s.output x [] x (sym (append-nil s.output)) (sym (append-nil x)) (output_good n s w.good x k)
        header_size (omega arith) u b v c m
        (f ∙ ap (λ (i : ℕ). replaced l header_size i lay.end x) d))

  module _ (x : List ℕ) (k : ok_owner x ≡ true) where
    pub owner_fit : (group old : ℕ) → group ≡ number_at l 16 6 → old ≡ number_at l 10 6 → Fit lay (length l) (lay.links - group - old) old (length x)
    owner_fit group old d e =
        let r = held-rising n l lay s w in
        let z = held-size n l lay s w in
        let f = fits n (with_owner s x) (owner_good n s w.good x k) in
        record {
          within = omega (arith, names-before, r.links, r.properties, r.tags, r.runs);
          end = z.1;
          fits = omega (arith, owner-length, end_is, encode-size s, encode-size (with_owner s x), w.room);
          rising = r;
          before = omega (arith, names-before);
          small = omega (arith, z.0, encode-size (with_owner s x));
        }

    pub owner-set : (group old : ℕ) (u v : List ℕ) (r : Layout) → group ≡ number_at l 16 6 → old ≡ number_at l 10 6
        → u ≡ replaced l (lay.links - group - old) old lay.end x → Bytes u → v ≡ put_at u 10 6 (length x) → length v ≡ length l
        → r ≡ all_moved lay old (length x) → Held n v r (with_owner s x)
    unfolding owner-frame
    owner-set group old u v r g e f b c m q =
        let d : old ≡ length s.owner = e ∙ owner-length in
        let at = lay.links - group - old in
        subst (λ (j : Layout). Held n v j (with_owner s x)) (sym (q ∙ ap (λ (i : ℕ). all_moved lay i (length x)) d))
        (part-replaced n l lay s w owner-frame [] s.owner x [] x (sym (append-nil s.owner)) (sym (append-nil x)) (owner_good n s w.good x k)
        at (omega (arith, group-length, links-is)) u b v c m
        (f ∙ ap (λ (i : ℕ). replaced l at i lay.end x) d))

    pub group_fit : (old : ℕ) → old ≡ number_at l 16 6 → Fit lay (length l) (lay.links - old) old (length x)
    group_fit old e =
        let r = held-rising n l lay s w in
        let z = held-size n l lay s w in
        let f = fits n (with_group s x) (group_good n s w.good x k) in
        record {
          within = omega (arith, names-before, r.links, r.properties, r.tags, r.runs);
          end = z.1;
          fits = omega (arith, group-length, end_is, encode-size s, encode-size (with_group s x), w.room);
          rising = r;
          before = omega (arith, names-before);
          small = omega (arith, z.0, encode-size (with_group s x));
        }

    pub group-set : (old : ℕ) (u v : List ℕ) (r : Layout) → old ≡ number_at l 16 6 → u ≡ replaced l (lay.links - old) old lay.end x → Bytes u
        → v ≡ put_at u 16 6 (length x) → length v ≡ length l → r ≡ all_moved lay old (length x) → Held n v r (with_group s x)
    unfolding group-frame
    group-set old u v r e f b c m q =
        let d : old ≡ length s.group = e ∙ group-length in
        let at = lay.links - old in
        subst (λ (j : Layout). Held n v j (with_group s x)) (sym (q ∙ ap (λ (i : ℕ). all_moved lay i (length x)) d))
        (part-replaced n l lay s w group-frame [] s.group x [] x (sym (append-nil s.group)) (sym (append-nil x)) (group_good n s w.good x k)
        at (omega (arith, links-is, length-append s.output s.owner)) u b v c m
        (f ∙ ap (λ (i : ℕ). replaced l at i lay.end x) d))
