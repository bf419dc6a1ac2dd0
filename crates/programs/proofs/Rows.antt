-- The programs of a rule, row by row.
-- Assumes nothing.
use Prim.Native.Nat.{ℕ, ◌+◌, ◌-◌, ◌≤◌, ◌<◌}
use mathlib.Core.Path.{◌≡◌, refl, sym, ◌∙◌, ap, subst}
use mathlib.Core.Bool.{true, false}
use mathlib.Core.List.{List, [], ◌∷◌}
use Rattle.std.specs.Prelude.{Some, Result, Ok, Err}
use native.Mathlib.Omega.{arith}
use lib.ListN.{length}
use Rattle.lists.specs.Lists.{is_some}
use Rattle.lists.specs.Checked.{Checked, refused, ok, ◌>>=◌}
use Rattle.lists.specs.Refusal as refusal
use Rattle.lists.proofs.Lists.{is-some}
use Rattle.rules.specs.Pair.{Rule}
use Rattle.refusals.specs.Refusals.{refusal_of}
use Rattle.refusals.specs.declared.Refusal.{Refusal}
use Rattle.table.specs.Table.{entry_of, pairs_from, Got, Segment}
use Rattle.table.specs.declared.Entry.{Entry}
use Rattle.table.proofs.Pairs.{pairs_end, rows-here, entry_in}
use Rattle.device.specs.Device.{Device, chain}
use Rattle.device_lookup.specs.declared.Chain.{Chain}
use Rattle.outcome.specs.State.{State}
use Rattle.outcome_target.specs.declared.Layout.{Layout}
use Rattle.sheet.specs.Sheet.{Sheet, decode}
use Rattle.text.specs.Engine.{Stepped, went}
use Rattle.engine.specs.Programs.{ask_pair, asked_then, ask_all}
use Rattle.records.specs.Records.{Denotes, Ready}
use Rattle.assignment.specs.Assignment.{Assignables, RuleRows, Readable}
use Rattle.programs.specs.Programs.{Says, AsksBeside}
use Rattle.programs.specs.declared.Asked.{Asked}
use Rattle.programs.specs.declared.Asked.TheVariants as asked

module _ (v r : List ℕ) (from to : ℕ) (sheet t₀ dev : List ℕ) (places : Chain) (place : ℕ) (lay₀ : Layout) where
  -- the pairs from a row on
  abbrev pairs : ℕ → Rule
  pairs i = pairs_from v r i (to - i)

  abbrev All : List ℕ → Result Asked Refusal → Type 0
  All t x = AsksBeside (λ a d s. ask_all a d place (pairs from) s) sheet dev places t₀ lay₀ t x

  -- they give what all pairs give
  pub record Going (t : List ℕ) (lay : Layout) (i : ℕ) : Type 0 where
    pub room : length t ≡ length t₀
    pub ordered : i ≤ to
    pub sound : Assignables (pairs i)
    pub going : (a : Sheet) → decode sheet ≡ Some a → (d : Device) (s₀ : State) → Denotes dev places t₀ lay₀ d s₀
        → (s : State) × Denotes dev places t lay d s × (ask_all a d place (pairs i) s ≡ ask_all a d place (pairs from) s₀)

  pub going_start : RuleRows v r from to → Going t₀ lay₀ from
  going_start h = record { room = refl; ordered = h.ordered; sound = h.sound; going = λ a e d s₀ k. (s₀, k, refl) }

  module _ (t : List ℕ) (lay : Layout) (i : ℕ) (g : Going t lay i) where
    pub still_ready : is_some (decode sheet) ≡ true → Ready dev places t₀ lay₀ → Ready dev places t lay
    still_ready q (d, s₀, h) = let (a, e) = is-some (decode sheet) q in let (s, z, f) = g.going a e d s₀ h in (d, s, z)

    -- behind the last row
    pub going_end : to ≤ i → All t (Ok (asked.Held lay))
    unfolding ask_all
    going_end h a e d s₀ k =
        let (s, z, b) = g.going a e d s₀ k in
        (s, sym b ∙ ap (λ (ps : Rule). ask_all a d place ps s) (pairs_end v r i to h), z.held)

    module _ (e : Entry) (got : Got r i e) (h : i < to) where
      sound-here : Assignables (entry_of v e ∷ pairs (i + 1))
      sound-here = subst Assignables (rows-here v r i to e got h) g.sound

      pub readable : Segment v r to → Readable v e
      readable s = (entry_in v r i to e got h s, sound-here.0)

      abbrev on : Sheet → Device → Checked refusal.Refusal (Stepped State) → Checked refusal.Refusal (Stepped State)
      on a d c = c >>= λ x. asked_then x (λ s'. ask_all a d place (pairs (i + 1)) s')

      all-next : (a : Sheet) (d : Device) (s : State) → ask_all a d place (pairs i) s ≡ on a d (ask_pair a d place (entry_of v e) s)
      unfolding ask_all
      all-next a d s = ap (λ (ps : Rule). ask_all a d place ps s) (rows-here v r i to e got h)

      module _ (t' : List ℕ) (x : Result Asked Refusal) (c : AsksBeside (λ a d s. ask_pair a d place (entry_of v e) s) sheet dev places t lay t' x) where
        says : (y : Result Asked Refusal) → x ≡ y → (a : Sheet) → decode sheet ≡ Some a → (d : Device) (s : State) → Denotes dev places t lay d s → Says (length (chain d)) t' y (ask_pair a d place (entry_of v e) s)
        says y q a f d s z = subst (λ (x : Result Asked Refusal). Says (length (chain d)) t' x (ask_pair a d place (entry_of v e) s)) q (c a f d s z)

        pub going_on : (lay' : Layout) → x ≡ Ok (asked.Held lay') → length t' ≡ length t → Going t' lay' (i + 1)
        going_on lay' q u = record {
          room = u ∙ g.room;
          ordered = omega arith;
          sound = sound-here.1;
          going = λ a f d s₀ k.
              let (s, z, b) = g.going a f d s₀ k in
              let (s', w, y) = says (Ok (asked.Held lay')) q a f d s z in
              (s', record { device = z.device; chained = z.chained; held = y }, sym (all-next a d s ∙ ap (on a d) w) ∙ b);
        }

        pub going_failed : (lay' : Layout) → x ≡ Ok (asked.Failed lay') → All t' (Ok (asked.Failed lay'))
        going_failed lay' q a f d s₀ k =
            let (s, z, b) = g.going a f d s₀ k in
            let (s', w, y) = says (Ok (asked.Failed lay')) q a f d s z in
            (s', sym b ∙ all-next a d s ∙ ap (on a d) w, y)

        pub going_refused : (y : Refusal) → x ≡ Err y → All t' (Err y)
        going_refused y q a f d s₀ k =
            let (s, z, b) = g.going a f d s₀ k in
            let w : ask_pair a d place (entry_of v e) s ≡ refused (refusal_of y) = says (Err y) q a f d s z in
            sym b ∙ all-next a d s ∙ ap (on a d) w
