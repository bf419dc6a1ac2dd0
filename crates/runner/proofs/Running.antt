-- The rules of a table, one after the other.
-- Assumes nothing.
use Prim.Native.Nat.{ℕ, zero, suc, ◌+◌, ◌-◌, ◌*◌, ◌≤◌, ◌<◌}
use mathlib.Core.Path.{◌≡◌, refl, sym, ◌∙◌, ap, ap₂, subst}
use mathlib.Core.Bool.{true, false}
use mathlib.Core.List.{List, ◌∷◌}
use Rattle.std.specs.Prelude.{Option, None, Some, Result, Ok, Err}
use native.Mathlib.Omega.{arith}
use native.Mathlib.Nat.{add-zero}
use borrow.Author.Tests.{eq-eqb, ne_eqb}
use lib.ListN.{length, get_or}
use Rattle.lists.specs.Lists.{is_some}
use Rattle.lists.specs.Checked.{Checked, refused, ok, Placed, line}
use Rattle.lists.specs.Refusal as refusal
use Rattle.lists.specs.Sizes.{most_rules, most_chain}
use Rattle.lists.proofs.Lists.{is-some}
use Rattle.lists.proofs.Moves.{ap_at}
use Rattle.refusals.specs.Refusals.{refusal_of}
use Rattle.refusals.specs.declared.Refusal.{Refusal}
use Rattle.refusals.specs.declared.LineRefusal.{LineRefusal}
use Rattle.rules.specs.Pair.{Rule, goto_of}
use Rattle.device.specs.Device.{Device}
use Rattle.device_lookup.specs.declared.Chain.{Chain}
use Rattle.outcome.specs.State.{State}
use Rattle.outcome_target.specs.declared.Layout.{Layout}
use Rattle.text.specs.Engine as text
use Rattle.text.specs.Running.{Mode, Ran, more, next, after, started, run_from}
use Rattle.text.proofs.Running.{more-zero, more-more}
use Rattle.sheet.specs.Sheet.{Sheet, decode}
use Rattle.engine.specs.Operations.{engine}
use Rattle.engine.specs.Match.{tried}
use Rattle.engine.specs.Step.{step}
use Rattle.records.specs.Records.{Denotes, Ready}
use Rattle.table.specs.Table.{rules_from}
use Rattle.table.specs.Rules.{pairs_of}
use Rattle.reader.specs.declared.Counts.{Counts}
use Rattle.table.proofs.Rules.{segment, rules-step, rules-end}
use Rattle.jumps.specs.Jumps.{Resolved, Jumps}
use Rattle.reader.specs.Texts.{Read}
use Rattle.runner.proofs.Seek.{seek_jump}
use Rattle.assignment.specs.Assignment.{Assignables, RuleRows}
use Rattle.assignment.proofs.Texts.{AllSound, text-sound}
use Rattle.step.specs.Step as step
use Rattle.step.specs.Step.{Steps}
use Rattle.step.specs.declared.Stepped.{Stepped}
use Rattle.step.specs.declared.Stepped.TheVariants as stepped
use Rattle.runner.specs.Runs.{Runnable, behind_of, runs, RuleSays, RuleRuns, Says, Runs}
use Rattle.runner.specs.declared.RuleRan.{RuleRan}
use Rattle.runner.specs.declared.Ended.{Ended}

-- ---- a table that was read may run

module _ (v r t : List ℕ) where
  rules-sound : (i k : ℕ) → AllSound (rules_from v r t i k) → (j : ℕ) → j < k → Assignables (pairs_of v r t (i + j))
  unfolding rules_from
  rules-sound i zero a j h = absurd (omega arith)
  rules-sound i (suc k) (a, b) zero h = subst (λ (m : ℕ). Assignables (pairs_of v r t m)) (let e : i ≡ i + 0 = omega arith in e) a
  rules-sound i (suc k) (a, b) (suc j) h = subst (λ (m : ℕ). Assignables (pairs_of v r t m)) (let e : suc i + j ≡ i + suc j = omega arith in e) (rules-sound (suc i) k b j (omega arith))

pub runnable : (x v r t l js : List ℕ) (c : Counts) → Read x v r t l js c → most_rules * 4 ≤ length t → most_rules ≤ length js → Runnable v r t js c.rules
runnable x v r t l js c w a b = record {
  few = w.few;
  rules_room = omega (arith, w.few);
  jumps_room = omega (arith, w.few);
  rules = λ i h.
      let y = w.rules.rules i h in
      record {
        ordered = y.ordered;
        rows = segment v r c.rows c.used (get_or t (i * 4 + 2) 0) w.rules.rows y.to;
        sound = subst (λ (m : ℕ). Assignables (pairs_of v r t m)) (let e : 0 + i ≡ i = omega arith in e) (rules-sound v r t 0 c.rules (text-sound x _ w.is) i h);
      };
  jumps = w.jumps;
}

-- ---- one rule

module _ (v r t js : List ℕ) (n i : ℕ) (h : i < n) (w : Runnable v r t js n) where
  abbrev pairs : Rule
  pairs = pairs_of v r t i

  abbrev number : ℕ
  number = get_or t (i * 4) 0

  abbrev later : Sheet → Device → Mode → State → Ran State
  later a d m s = run_from (engine a) d m s (rules_from v r t (i + 1) (n - (i + 1)))

  begun : (a : Sheet) (d : Device) (s : State) → runs v r t n a d s i ≡ started (engine a) (step a d pairs s) number (tried d pairs s) (goto_of pairs) (later a d)
  unfolding run_from
  begun a d s = ap (run_from (engine a) d next s) (rules-step v r t i n h)

  pub rule-rows : (from to : ℕ) → from ≡ get_or t (i * 4 + 1) 0 → to ≡ get_or t (i * 4 + 2) 0 → RuleRows v r from to
  rule-rows from to is-from is-to = rw (is-from, is-to) (w.rules i h)

  -- where a jump leaves the run
  jumped : (g : Option (List ℕ)) (k : ℕ) → Resolved v r t i n g k → (a : Sheet) (d : Device) (s : State) → later a d (after true g) s ≡ runs v r t n a d s (behind_of k i)
  jumped None k e a d s = rw (eq-eqb k 0 e)
  jumped (Some g) k (p, b) a d s = rw (ne_eqb k 0 (λ e. omega arith)) (seek_jump v r t g n a d s (i + 1) (k - 1) b)

  jump_in : (g : Option (List ℕ)) (k : ℕ) → Resolved v r t i n g k → (i < behind_of k i) × (behind_of k i ≤ n)
  jump_in None k e = rw (eq-eqb k 0 e) (omega arith, omega arith)
  jump_in (Some g) k (a, b) = rw (ne_eqb k 0 (λ e. omega arith)) (omega (arith, b.from), omega (arith, b.within))

  module _ (from to : ℕ) (is-from : from ≡ get_or t (i * 4 + 1) 0) (is-to : to ≡ get_or t (i * 4 + 2) 0) (dev : List ℕ) (places : Chain) (sheet x : List ℕ) (lay : Layout) (x' : List ℕ) (o : Result Stepped Refusal)
      (c : Steps v r from to dev places sheet x lay x' o) where
    says : (y : Result Stepped Refusal) → o ≡ y → (a : Sheet) → decode sheet ≡ Some a → (d : Device) (s : State) → Denotes dev places x lay d s → step.Says dev places lay d s x' y (step a d pairs s) (tried d pairs s)
    says y q a e d s z = rw (← q, ← is-from, ← is-to) (c.says a e d s z)

    few : (y : Result Stepped Refusal) → o ≡ y → step.Few y
    few y q = subst step.Few q c.few

    abbrev by : Sheet → Device → ℕ → Checked refusal.Refusal (text.Stepped State) → Ran State
    by a d k b = started (engine a) b number k (goto_of pairs) (later a d)

    pub rule_missed : (k : ℕ) → o ≡ Ok (stepped.Missed k) → RuleSays v r t n i dev places sheet x lay x' (Ok (record { layout = lay; next = i + 1; tried = k }))
    rule_missed k q = (
      omega arith,
      omega arith,
      few (Ok (stepped.Missed k)) q,
      λ a e d s z. let (f, z', m) = says (Ok (stepped.Missed k)) q a e d s z in (s, z', begun a d s ∙ ap₂ (by a d) (sym m) f),
    )

    pub rule_failed : (lay' : Layout) (k : ℕ) → o ≡ Ok (stepped.Failed lay' k) → RuleSays v r t n i dev places sheet x lay x' (Ok (record { layout = lay'; next = i + 1; tried = k }))
    rule_failed lay' k q = (
      omega arith,
      omega arith,
      few (Ok (stepped.Failed lay' k)) q,
      λ a e d s z. let (s', f, z', m) = says (Ok (stepped.Failed lay' k)) q a e d s z in (s', z', begun a d s ∙ ap₂ (by a d) (sym m) f),
    )

    pub rule-left : (lay' : Layout) (k : ℕ) → o ≡ Ok (stepped.Left lay' k) → (j : ℕ) → j ≡ behind_of (get_or js i 0) i → RuleSays v r t n i dev places sheet x lay x' (Ok (record { layout = lay'; next = j; tried = k }))
    rule-left lay' k q j e =
        let (low, high) = jump_in (goto_of pairs) (get_or js i 0) (w.jumps i h) in
        rw e (
          low,
          high,
          few (Ok (stepped.Left lay' k)) q,
          λ a is d s z.
              let (s', f, z', m) = says (Ok (stepped.Left lay' k)) q a is d s z in
              (s', z', begun a d s ∙ ap₂ (by a d) (sym m) f ∙ ap (more 1 k) (jumped (goto_of pairs) (get_or js i 0) (w.jumps i h) a d s')),
        )

    pub rule-refused : (f : Refusal) → o ≡ Err f → RuleSays v r t n i dev places sheet x lay x' (Err f)
    rule-refused f q a is d s z =
        let e : step a d pairs s ≡ refused (refusal_of f) = says (Err f) q a is d s z in
        begun a d s ∙ ap (by a d (tried d pairs s)) e

-- ---- one after the other

module _ (v r t : List ℕ) (n : ℕ) (dev : List ℕ) (places : Chain) (sheet x₀ : List ℕ) (lay₀ : Layout) where
  -- the rules from the i-th on give what all rules give, with k rules visited and u devices tried
  pub record Going (x : List ℕ) (lay : Layout) (k u i : ℕ) : Type 0 where
    pub room : length x ≡ length x₀
    pub within : i ≤ n
    pub few : k ≤ i
    pub tried : u ≤ k * most_chain
    pub going : (a : Sheet) → decode sheet ≡ Some a → (d : Device) (s₀ : State) → Denotes dev places x₀ lay₀ d s₀
        → (s : State) × Denotes dev places x lay d s × (more k u (runs v r t n a d s i) ≡ run_from (engine a) d next s₀ (rules_from v r t 0 n))

  pub going_start : Going x₀ lay₀ 0 0 0
  going_start = record {
    room = refl;
    within = omega arith;
    few = omega arith;
    tried = omega arith;
    going = λ a e d s z. (s, z, more-zero (runs v r t n a d s 0) ∙ ap_at (λ k. run_from (engine a) d next s (rules_from v r t 0 k)) (n - 0) n (omega arith));
  }

  module _ (x : List ℕ) (lay : Layout) (k u i : ℕ) (g : Going x lay k u i) where
    pub still_ready : is_some (decode sheet) ≡ true → Ready dev places x₀ lay₀ → Ready dev places x lay
    still_ready q (d, s₀, z) = let (a, e) = is-some (decode sheet) q in let (s, z', _) = g.going a e d s₀ z in (d, s, z')

    module _ (x' : List ℕ) (o : Result RuleRan Refusal) (y : RuleRuns v r t n i dev places sheet x lay x' o) where
      says_so : (q : Result RuleRan Refusal) → o ≡ q → RuleSays v r t n i dev places sheet x lay x' q
      says_so q e = subst (RuleSays v r t n i dev places sheet x lay x') e y.says

      pub further : (z : RuleRan) → o ≡ Ok z → (i < z.next) × (z.next ≤ n) × (z.tried ≤ most_chain)
      further ran e = let (a, b, f, c) = says_so (Ok ran) e in (a, b, f)

      pub going_on : (z : RuleRan) → o ≡ Ok z → Going x' z.layout (k + 1) (u + z.tried) z.next
      going_on ran e =
          let (a, b, l, c) = says_so (Ok ran) e in
          let f = g.few in
          let tried = g.tried in
          record {
            room = y.length ∙ g.room;
            within = b;
            few = omega arith;
            tried = omega arith;
            going = λ h is d s₀ z₀.
                let (s, z, q) = g.going h is d s₀ z₀ in
                let (s', z', q') = c h is d s z in
                (s', z', sym (more-more k u 1 ran.tried (runs v r t n h d s' ran.next)) ∙ ap (more k u) (sym q') ∙ q);
          }

      pub going_refused : (f : Refusal) → o ≡ Err f → (m : ℕ) → m ≡ get_or t (i * 4) 0 → m < 65536 → Runs v r t n dev places sheet x₀ lay₀ x' (Err (record { refusal = f; line = m }))
      going_refused f e m q l = record {
        says = λ a is d s₀ z₀.
            let (s, z, w) = g.going a is d s₀ z₀ in
            sym w ∙ ap (more k u) (says_so (Err f) e a is d s z) ∙ rw q;
        small = l;
        length = y.length ∙ g.room;
      }

    -- behind the last rule
    pub going_end : n ≤ i → n ≤ most_rules → Runs v r t n dev places sheet x₀ lay₀ x (Ok (record { layout = lay; visited = k; tried = u }))
    unfolding run_from
    going_end h few =
        let f = g.few in
        let l = g.within in
        let tried = g.tried in
        record {
          says = λ a is d s₀ z₀.
              let (s, z, w) = g.going a is d s₀ z₀ in
              let e : runs v r t n a d s i ≡ ok (record { mode = next; state = s; visited = 0; tried = 0 }) = ap (run_from (engine a) d next s) (rules-end v r t i n h) in
              (record { mode = next; state = s; visited = k + 0; tried = u + 0 }, sym w ∙ ap (more k u) e, z, sym (add-zero k), sym (add-zero u));
          small = (omega arith, omega arith);
          length = g.room;
        }
