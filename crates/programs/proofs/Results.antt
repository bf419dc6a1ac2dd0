-- RESULT on the output that is stored, and a rule whose programs were asked.
-- Assumes nothing.
use Prim.Native.Nat.{ℕ, ◌+◌, ◌-◌, ◌≤◌, ◌<◌}
use mathlib.Core.Path.{◌≡◌, refl, sym, ◌∙◌, ap, subst}
use mathlib.Core.Bool.{Bool, true, false}
use mathlib.Core.List.{List}
use Rattle.std.specs.Prelude.{Some, Result, Ok, Err}
use lib.ListN.{length}
use Rattle.lists.specs.Lists.{is_some, all}
use Rattle.lists.specs.Checked.{Checked, refused, ok, ◌>>=◌}
use Rattle.lists.specs.Refusal as refusal
use Rattle.lists.proofs.Lists.{is-some}
use Rattle.bits.specs.Bits.{number_at}
use Rattle.rules.specs.Key.{RESULT, same_key}
use Rattle.rules.specs.Pair.{Pair, Rule}
use Rattle.refusals.specs.Refusals.{refusal_of}
use Rattle.refusals.specs.declared.Refusal.{Refusal}
use Rattle.table.specs.Table.{entry_of, pairs_from, Got}
use Rattle.table.specs.declared.Entry.{Entry}
use Rattle.table.proofs.Pairs.{pairs_end, rows-here}
use Rattle.device.specs.Device.{Device, chain}
use Rattle.device_lookup.specs.declared.Chain.{Chain}
use Rattle.outcome.specs.Head.{header_size}
use Rattle.outcome.specs.State.{State}
use Rattle.outcome_target.specs.declared.Layout.{Layout}
use Rattle.sheet.specs.Sheet.{Sheet, decode}
use Rattle.text.specs.Engine.{Stepped, went}
use Rattle.engine.specs.Match.{judged, value_holds}
use Rattle.engine.specs.Programs.{asked_then, ask_all, result_holds, results_hold}
use Rattle.outcome_readers.specs.Readers.{output_in}
use Rattle.outcome_readers.proofs.Outputs.{held_output}
use Rattle.records.specs.Records.{Denotes, Ready}
use Rattle.programs.specs.Programs.{Says, AsksBeside, result_on, results_on, judged_by}
use Rattle.programs.specs.declared.Asked.{Asked}
use Rattle.programs.specs.declared.Asked.TheVariants as asked

results_on_lem : (s : State) (r : Rule) → results_on s.output r ≡ results_hold s r
unfolding results_on results_hold result_holds
results_on_lem s r = refl

-- a pair by its key
module _ (x : List ℕ) (p : Pair) where
  pub result-passed : same_key p.key RESULT ≡ false → true ≡ result_on x p
  result-passed e = rw (e, result_on)

  pub result-judged : same_key p.key RESULT ≡ true → value_holds p x ≡ result_on x p
  result-judged e = rw (e, result_on)

-- the row at hand and those behind it
module _ (v r : List ℕ) (i n : ℕ) (x : List ℕ) where
  pub results_end : n ≤ i → results_on x (pairs_from v r i (n - i)) ≡ true
  unfolding results_on
  results_end h = rw (pairs_end v r i n h)

  module _ (e : Entry) (got : Got r i e) (h : i < n) where
    pub results_fail : result_on x (entry_of v e) ≡ false → results_on x (pairs_from v r i (n - i)) ≡ false
    unfolding results_on
    results_fail t = rw (rows-here v r i n e got h, t)

    pub results_next : result_on x (entry_of v e) ≡ true → results_on x (pairs_from v r i (n - i)) ≡ results_on x (pairs_from v r (i + 1) (n - (i + 1)))
    unfolding results_on
    results_next t = rw (rows-here v r i n e got h, t)

-- ---- a rule

module _ (r : Rule) (place : ℕ) (sheet dev : List ℕ) (places : Chain) (t : List ℕ) (lay : Layout) (t' : List ℕ) (x : Result Asked Refusal)
    (c : AsksBeside (λ a d s. ask_all a d place r s) sheet dev places t lay t' x) where
  says : (y : Result Asked Refusal) → x ≡ y → (a : Sheet) → decode sheet ≡ Some a → (d : Device) (s : State) → Denotes dev places t lay d s → Says (length (chain d)) t' y (ask_all a d place r s)
  says y q a e d s z = subst (λ (x : Result Asked Refusal). Says (length (chain d)) t' x (ask_all a d place r s)) q (c a e d s z)

  abbrev Judged : Result Asked Refusal → Type 0
  Judged y = AsksBeside (λ a d s. judged_by a d place r s) sheet dev places t lay t' y

  abbrev on : Checked refusal.Refusal (Stepped State) → Checked refusal.Refusal (Stepped State)
  on c = c >>= λ x. asked_then x (λ s'. ok (went s' (results_hold s' r)))

  -- a program did not hold, or was refused
  pub judged_failed : (lay' : Layout) → x ≡ Ok (asked.Failed lay') → Judged (Ok (asked.Failed lay'))
  judged_failed lay' q a e d s z = let (s', f, y) = says (Ok (asked.Failed lay')) q a e d s z in (s', ap on f, y)

  pub judged-refused : (y : Refusal) → x ≡ Err y → Judged (Err y)
  judged-refused y q a e d s z =
      let f : ask_all a d place r s ≡ refused (refusal_of y) = says (Err y) q a e d s z in
      ap on f

  -- all programs hold: the output that is stored stands in the target
  pub output_within : is_some (decode sheet) ≡ true → Ready dev places t lay → (lay' : Layout) → x ≡ Ok (asked.Held lay') → header_size + number_at t' 88 10 ≤ length t'
  output_within h (d, s, z) lay' q =
      let (a, e) = is-some (decode sheet) h in
      let (s', f, y) = says (Ok (asked.Held lay')) q a e d s z in
      (held_output (length (chain d)) t' lay' s' y).within

  module _ (lay' : Layout) (q : x ≡ Ok (asked.Held lay')) (output : List ℕ) (is : output ≡ output_in t') (b : Bool) (f : b ≡ results_on output r) where
    after : (a : Sheet) → decode sheet ≡ Some a → (d : Device) (s : State) → Denotes dev places t lay d s
        → (s' : State) × (judged_by a d place r s ≡ ok (went s' b)) × Denotes dev places t' lay' d s'
    after a e d s z =
        let (s', g, y) = says (Ok (asked.Held lay')) q a e d s z in
        let z' : Denotes dev places t' lay' d s' = record { device = z.device; chained = z.chained; held = y } in
        let h : results_hold s' r ≡ b = sym (f ∙ ap (λ o. results_on o r) (is ∙ (held_output (length (chain d)) t' lay' s' y).is) ∙ results_on_lem s' r) in
        (s', ap on g ∙ ap (λ b. ok (went s' b)) h, z')

    pub judged-held : b ≡ true → Judged (Ok (asked.Held lay'))
    judged-held h a e d s z = let (s', g, z') = after a e d s z in (s', g ∙ ap (λ b. ok (went s' b)) h, z'.held)

    pub judged_missed : b ≡ false → Judged (Ok (asked.Failed lay'))
    judged_missed h a e d s z = let (s', g, z') = after a e d s z in (s', g ∙ ap (λ b. ok (went s' b)) h, z'.held)
