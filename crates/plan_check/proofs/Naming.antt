-- One device: its fresh record, the rules run over it, and the links that they leave.
-- Assumes nothing.
use Prim.Native.Nat.{ℕ, ◌-◌, ◌≤◌}
use mathlib.Core.Path.{◌≡◌, refl, sym, ap, ap₂, ◌∙◌, subst}
use mathlib.Core.Bool.{Bool, true, false, ◌||◌}
use mathlib.Core.List.{List, [], ◌∷◌}
use Rattle.std.specs.Prelude.{Some}
use native.Mathlib.Omega.{arith}
use lib.ListN.{length, take, replicate, length-append}
use lib.Seq.{take-append_seam}
use Rattle.lists.specs.Lists.{is_some}
use Rattle.lists.specs.Bytes.{same_bytes, among}
use Rattle.lists.specs.Checked.{refused, ok, Placed}
use Rattle.lists.specs.Refusal.{Refusal}
use Rattle.lists.specs.Sizes.{fullest_outcome}
use Rattle.splice.specs.Moves.{padded}
use Rattle.rules.specs.Pair.{Rule}
use Rattle.rules.specs.Reading.{reader}
use Rattle.device.specs.Device as D
use Rattle.device.specs.Device.{Device, chain}
use Rattle.device_lookup.specs.Lookup.{Chained}
use Rattle.device_lookup.specs.declared.Chain.{Chain}
use Rattle.outcome.specs.State as O
use Rattle.outcome.specs.State.{State}
use Rattle.outcome.specs.Head.{header_size}
use Rattle.outcome.proofs.Fresh.{fresh_good, fresh_read}
use Rattle.outcome.proofs.RoundTrip.{there}
use Rattle.outcome_target.specs.Held as target
use Rattle.outcome_target.specs.Layout.{layout_of}
use Rattle.outcome_target.specs.declared.Layout.{Layout}
use Rattle.outcome_target.proofs.Edits.{layout_end}
use Rattle.records.specs.Records.{Denotes}
use Rattle.run.proofs.Laws.{used_is}
use Rattle.text.specs.Reading.{read_text}
use Rattle.text.specs.Run.{Answer, acceptance}
use Rattle.text.specs.Running.{Halt, Ran, next, run_from}
use Rattle.sheet.specs.Sheet as sheet
use Rattle.engine.specs.Operations.{decode_for, engine, run_checked, fresh, fresh_checked}
use Rattle.answers.specs.Answers.{answered}
use Rattle.answers.specs.declared.Given.{Given}
use Rattle.plan.specs.Plan.{Naming, only, ends_with, unanswered, run_fresh, names}

-- ---- links

-- a list of another length is not that one link
pub only_other : (x : List ℕ) (ls : List (List ℕ)) (k : ℕ) → k ≡ length ls → (k ≡ 1 → ⊥) → false ≡ only x ls
only_other x [] k e h = refl
only_other x (y ∷ []) k e h = absurd (h e)
only_other x (y ∷ z ∷ ls) k e h = refl

or-none : (b : Bool) → (b || false) ≡ b
or-none true = refl
or-none false = refl

pub only-among : (x : List ℕ) (ls : List (List ℕ)) (k : ℕ) → k ≡ length ls → k ≡ 1 → among x ls ≡ only x ls
only-among x [] k e h = absurd (omega arith)
only-among x (y ∷ []) k e h = or-none (same_bytes y x)
only-among x (y ∷ z ∷ ls) k e h = absurd (omega arith)

-- ---- a sheet of no replies

pub sheet_sound : is_some (sheet.decode (0 ∷ [])) ≡ true
unfolding sheet.decode
sheet_sound = refl

pub sheet_none : sheet.decode (0 ∷ []) ≡ Some unanswered
unfolding sheet.decode
sheet_none = refl

no_replies : sheet.decode (sheet.encode unanswered) ≡ Some unanswered
unfolding sheet.decode sheet.encode
no_replies = refl

module _ (dev link : List ℕ) (d : Device) (is : D.decode dev ≡ Some d) where
  abbrev pub naming : Naming
  naming = record { bytes_lent = dev; device = d; link = link }

  -- ---- the fresh record in the buffer

  -- where its rows begin
  abbrev starts_at : ℕ → Layout
  starts_at n = record { links = header_size; properties = header_size; tags = n; runs = n; end = n }

  fresh_layout : starts_at (length (O.encode (O.fresh d))) ≡ layout_of (O.fresh d)
  unfolding layout_of O.fresh
  fresh_layout =
      let n = length (O.encode (O.fresh d)) in
      let end : n ≡ (layout_of (O.fresh d)).end = sym (layout_end (O.fresh d)) in
      let tags : n ≡ (layout_of (O.fresh d)).tags = omega (arith, end) in
      let runs : n ≡ (layout_of (O.fresh d)).runs = omega (arith, end) in
      λ i. record { links = header_size; properties = header_size; tags = tags i; runs = runs i; end = end i }

  fresh-given : acceptance fullest_outcome 0 0 (O.encode (O.fresh d)) ≡ fresh dev fullest_outcome
  unfolding fresh fresh_checked
  fresh-given = rw is

  module _ (t : List ℕ) (room : ℕ) (size : room ≡ fullest_outcome) (long : length t ≡ room) (g : Given) (gave : answered g t ≡ fresh dev room) where
    pub begun : (r : Chain) → Chained d r → (lay : Layout) → lay ≡ starts_at g.used → Denotes dev r t lay d (O.fresh d)
    begun r c lay l =
        let as_fresh = gave ∙ ap (fresh dev) size ∙ sym fresh-given in
        record {
          device = is;
          chained = c;
          held = record {
            good = fresh_good dev d is;
            bytes = ap (λ (a : Answer). a.bytes) as_fresh ∙ ap (λ (k : ℕ). padded k (O.encode (O.fresh d))) (sym (long ∙ size));
            layout = l ∙ ap (λ (a : Answer). starts_at a.used) as_fresh ∙ fresh_layout;
            room = omega (arith, long, size);
          };
        }

  -- ---- the rules

  pub names-unread : (text : List ℕ) (f : Placed Refusal) → read_text reader text ≡ refused f → false ≡ names text naming
  unfolding run_checked
  names-unread text f w = rw w

  run_read : (text : List ℕ) (rs : List (Placed Rule)) → read_text reader text ≡ ok rs → run_fresh text naming ≡ run_from (engine unanswered) d next (O.fresh d) rs
  unfolding run_checked decode_for
  run_read text rs w = rw (w, is, fresh_read dev d is, no_replies)

  module _ (text : List ℕ) (rs : List (Placed Rule)) (w : read_text reader text ≡ ok rs) where
    pub names-refused : (f : Placed Refusal) → run_from (engine unanswered) d next (O.fresh d) rs ≡ refused f → false ≡ names text naming
    names-refused f e = sym (ap (ends_with link) (run_read text rs w ∙ e))

    pub names-ended : (h : Halt State) → run_from (engine unanswered) d next (O.fresh d) rs ≡ ok h → names text naming ≡ only link h.state.links
    names-ended h e = ap (ends_with link) (run_read text rs w ∙ e)

-- ---- the record that is left

module _ (n : ℕ) (l : List ℕ) (lay : Layout) (s : State) (w : target.Held n l lay s) where
  pub left-fits : lay.end ≤ length l
  left-fits =
      let made : List ℕ = O.encode s in
      let zeros : List ℕ = replicate (length l - length made) 0 in
      omega (arith, used_is n l lay s w, ap length w.bytes, length-append made zeros)

  pub left_read : O.decode n (take lay.end l) ≡ Some s
  left_read =
      ap (O.decode n) (ap₂ take (used_is n l lay s w) w.bytes ∙ take-append_seam (O.encode s) _)
      ∙ there n s w.good
