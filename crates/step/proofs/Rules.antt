-- One rule: its keys hold at a place, or not; its programs hold, or not.
-- Assumes nothing.
use Prim.Native.Nat.{ℕ, ◌≤◌}
use mathlib.Core.Path.{◌≡◌, refl, sym, ◌∙◌, ap, subst}
use mathlib.Core.Bool.{Bool, true, false, ◌||◌}
use mathlib.Core.List.{List, [], ◌∷◌}
use Rattle.std.specs.Prelude.{Option, Some, Result, Ok, Err}
use lib.ListN.{length}
use native.Mathlib.Omega.{arith}
use Rattle.lists.specs.Lists.{all, any}
use Rattle.lists.specs.Checked.{Checked, refused, ok, ◌>>=◌}
use Rattle.lists.specs.Refusal as refusal
use Rattle.lists.specs.Sizes.{most_chain}
use Rattle.rules.specs.Key.{PROGRAM, RESULT, same_key}
use Rattle.rules.specs.Pair.{Pair, Rule}
use Rattle.refusals.specs.Refusals.{refusal_of}
use Rattle.refusals.specs.declared.Refusal.{Refusal}
use Rattle.device.specs.Device.{Device, chain}
use Rattle.device_lookup.specs.declared.Chain.{Chain}
use Rattle.outcome.specs.State.{State}
use Rattle.outcome_target.specs.declared.Layout.{Layout}
use Rattle.sheet.specs.Sheet.{Sheet, decode}
use Rattle.text.specs.Engine.{Stepped, went}
use Rattle.engine.specs.Match.{matched, tried}
use Rattle.engine.specs.Assign.{assign_all}
use Rattle.engine.specs.Programs.{ask_pair, asked_then, ask_all, result_holds, results_hold}
use Rattle.engine.specs.Step as engine
use Rattle.engine.specs.Step.{begun, ended, finished, step_at}
use Rattle.device_lookup.proofs.Devices.{chain_few}
use Rattle.matching.specs.Answers.{place_in, tried_in, near_of, is_asked, asks_in, Asks}
use Rattle.matching.specs.Judging.{Begun}
use Rattle.matching.specs.declared.Matched.{Matched}
use Rattle.records.specs.Records.{Denotes}
use Rattle.assignment.specs.Assignment.{AllSays}
use Rattle.programs.specs.Programs as programs
use Rattle.programs.specs.Programs.{AsksBeside, judged_by}
use Rattle.programs.specs.declared.Asked.{Asked}
use Rattle.programs.specs.declared.Asked.TheVariants as asked
use Rattle.step.specs.Step.{Says, Few}
use Rattle.step.specs.declared.Stepped as code
use Rattle.step.specs.declared.Stepped.TheVariants as stepped

abbrev pub begun-from : (dev : List ℕ) (places : Chain) (t : List ℕ) (lay : Layout) (d : Device) (s : State) → Denotes dev places t lay d s → Begun dev places t lay
begun-from dev places t lay d s h = record { device = d; decoded = h.device; chained = h.chained; n = length (chain d); state = s; held = h.held }

-- a chain has at most 16 devices
pub few_tried : (dev : List ℕ) (places : Chain) (t : List ℕ) (lay : Layout) (d : Device) (s : State) → Denotes dev places t lay d s → (k : ℕ) → k ≤ places.len → k ≤ most_chain
few_tried dev places t lay d s h k l = omega (arith, chain_few dev d h.device, h.chained.len)

pub says_few : (dev : List ℕ) (places : Chain) (lay : Layout) (d : Device) (s : State) (t : List ℕ) (x : Result code.Stepped Refusal) (c : Checked refusal.Refusal (Stepped State)) (n : ℕ)
    → n ≤ most_chain → Says dev places lay d s t x c n → Few x
says_few dev places lay d s t (Ok (stepped.Missed k)) c n l (e, h, q) = subst (λ (m : ℕ). m ≤ most_chain) (sym q) l
says_few dev places lay d s t (Ok (stepped.Failed lay' k)) c n l (s', e, h, q) = subst (λ (m : ℕ). m ≤ most_chain) (sym q) l
says_few dev places lay d s t (Ok (stepped.Left lay' k)) c n l (s', e, h, q) = subst (λ (m : ℕ). m ≤ most_chain) (sym q) l
says_few dev places lay d s t (Err f) c n l h = tt

-- ---- a rule without PROGRAM and RESULT asks nothing

neither : (p q : Bool) → (p || q) ≡ false → (p ≡ false) × (q ≡ false)
neither false q e = (refl, e)
neither true q e = let z : ◌≡◌ {A = ℕ} 0 1 = cc in absurd (omega arith)

pair_unasked : (a : Sheet) (d : Device) (k : ℕ) (p : Pair) (s : State) → is_asked p.key ≡ false → (ask_pair a d k p s ≡ ok (went s true)) × (result_holds s p ≡ true)
unfolding ask_pair result_holds
pair_unasked a d k p s e = let (f, g) = neither (same_key p.key PROGRAM) (same_key p.key RESULT) e in (rw (f, ask_pair), rw (g, result_holds))

unasked : (a : Sheet) (d : Device) (k : ℕ) (ps : Rule) (s : State) → asks_in ps ≡ false → (ask_all a d k ps s ≡ ok (went s true)) × (results_hold s ps ≡ true)
unfolding asks_in ask_all results_hold
unasked a d k [] s e = (refl, refl)
unasked a d k (p ∷ ps) s e =
    let (f, g) = neither (is_asked p.key) (asks_in ps) e in
    let (b, c) = pair_unasked a d k p s f in
    let (v, w) = unasked a d k ps s g in
    (rw b v, rw c w)

pub judged_unasked : (a : Sheet) (d : Device) (k : ℕ) (ps : Rule) (s : State) → asks_in ps ≡ false → judged_by a d k ps s ≡ ok (went s true)
judged_unasked a d k ps s e =
    let (v, w) = unasked a d k ps s e in
    ap (λ (c : Checked refusal.Refusal (Stepped State)). c >>= λ x. asked_then x (λ s'. ok (went s' (results_hold s' ps)))) v ∙ ap (λ (b : Bool). ok (went s b)) w

-- ---- programs and RESULT, then the assignments

module _ (a : Sheet) (d : Device) (k : ℕ) (ps : Rule) where
  abbrev assigning : Stepped State → Checked refusal.Refusal (Stepped State)
  assigning x = asked_then x (λ s'. ended (assign_all d k ps (begun s')))

  finished-by : (s : State) → finished d k ps s ≡ assigning (went s (results_hold s ps))
  unfolding finished
  finished-by s = at (results_hold s ps) refl
    where
      at : (b : Bool) → results_hold s ps ≡ b → finished d k ps s ≡ assigning (went s b)
      at true e = rw (e, finished)
      at false e = rw (e, finished)

  judged-then : (c : Checked refusal.Refusal (Stepped State))
      → (c >>= λ x. asked_then x (finished d k ps)) ≡ ((c >>= λ x. asked_then x (λ s'. ok (went s' (results_hold s' ps)))) >>= λ y. assigning y)
  judged-then (refused f) = refl
  judged-then (ok (went s true)) = finished-by s
  judged-then (ok (went s false)) = refl

  at_judged : (s : State) → step_at (Some k) a d ps s ≡ (judged_by a d k ps s >>= λ y. assigning y)
  unfolding step_at
  at_judged s = judged-then (ask_all a d k ps s)

  module _ (dev : List ℕ) (places : Chain) (t : List ℕ) (lay : Layout) (sheet : List ℕ) (e : decode sheet ≡ Some a) (s : State) (h : Denotes dev places t lay d s) (t₁ : List ℕ) (x : Result Asked Refusal)
      (c : AsksBeside (λ a d s. judged_by a d k ps s) sheet dev places t lay t₁ x) where
    says : (y : Result Asked Refusal) → x ≡ y → programs.Says (length (chain d)) t₁ y (judged_by a d k ps s)
    says y q = subst (λ (x : Result Asked Refusal). programs.Says (length (chain d)) t₁ x (judged_by a d k ps s)) q (c a e d s h)

    -- the state that they left
    pub asked-state : (lay₁ : Layout) → x ≡ Ok (asked.Held lay₁) → (s₁ : State) × Denotes dev places t₁ lay₁ d s₁
    asked-state lay₁ q = let (s₁, f, z) = says (Ok (asked.Held lay₁)) q in (s₁, record { device = h.device; chained = h.chained; held = z })

    -- all hold: the assignments from there
    module _ (lay₁ : Layout) (q : x ≡ Ok (asked.Held lay₁)) (t' : List ℕ) (y : Result Layout Refusal)
        (w : (s₁ : State) → Denotes dev places t₁ lay₁ d s₁ → AllSays (length (chain d)) t' y (assign_all d k ps (begun s₁))) where
      assigned : (z : Result Layout Refusal) → y ≡ z
          → (s₁ : State) × (ended (assign_all d k ps (begun s₁)) ≡ step_at (Some k) a d ps s) × AllSays (length (chain d)) t' z (assign_all d k ps (begun s₁))
      assigned z u =
          let (s₁, f, v) = says (Ok (asked.Held lay₁)) q in
          let b : ended (assign_all d k ps (begun s₁)) ≡ step_at (Some k) a d ps s = sym (at_judged s ∙ ap (λ c. c >>= λ y. assigning y) f) in
          (s₁, b, subst (λ (y : Result Layout Refusal). AllSays (length (chain d)) t' y (assign_all d k ps (begun s₁))) u (w s₁ (record { device = h.device; chained = h.chained; held = v })))

      pub asked-left : (lay' : Layout) → y ≡ Ok lay' → Says dev places lay d s t' (Ok (stepped.Left lay' k)) (step_at (Some k) a d ps s) k
      asked-left lay' u =
          let (s₁, b, (v, f, z)) = assigned (Ok lay') u in
          (v.state, sym b ∙ ap ended f, record { device = h.device; chained = h.chained; held = z }, refl)

      pub assign-refused : (r : Refusal) → y ≡ Err r → step_at (Some k) a d ps s ≡ refused (refusal_of r)
      assign-refused r u =
          let (s₁, b, g) = assigned (Err r) u in
          let f : assign_all d k ps (begun s₁) ≡ refused (refusal_of r) = g in
          sym b ∙ ap ended f

    -- one does not hold, or is refused
    pub asked_failed : (lay₁ : Layout) → x ≡ Ok (asked.Failed lay₁) → Says dev places lay d s t₁ (Ok (stepped.Failed lay₁ k)) (step_at (Some k) a d ps s) k
    asked_failed lay₁ q =
        let (s₁, f, z) = says (Ok (asked.Failed lay₁)) q in
        (s₁, at_judged s ∙ ap (λ c. c >>= λ y. assigning y) f, record { device = h.device; chained = h.chained; held = z }, refl)

    pub asked-refused : (y : Refusal) → x ≡ Err y → step_at (Some k) a d ps s ≡ refused (refusal_of y)
    asked-refused y q =
        let f : judged_by a d k ps s ≡ refused (refusal_of y) = says (Err y) q in
        at_judged s ∙ ap (λ c. c >>= λ y. assigning y) f

-- ---- by what was matched

module _ (a : Sheet) (d : Device) (s : State) (ps : Rule) (m : Result Matched ℕ) (e : place_in (near_of m) ≡ matched d s ps) (w : tried_in (near_of m) ≡ tried d ps s)
    (dev : List ℕ) (places : Chain) (t : List ℕ) (lay : Layout) (h : Denotes dev places t lay d s) where
  step_by : (o : Option ℕ) → place_in (near_of m) ≡ o → step_at o a d ps s ≡ engine.step a d ps s
  unfolding engine.step
  step_by o q = ap (λ (o : Option ℕ). step_at o a d ps s) (sym q ∙ e)

  pub step_missed : (k : ℕ) → m ≡ Err k → Says dev places lay d s t (Ok (stepped.Missed k)) (engine.step a d ps s) (tried d ps s)
  unfolding step_at
  step_missed k q = (sym (step_by _ (ap (λ m. place_in (near_of m)) q)), h, ap (λ m. tried_in (near_of m)) (sym q) ∙ w)

  pub step_placed : (at : Matched) → m ≡ Ok at → (t' : List ℕ) (y : Result code.Stepped Refusal) → Says dev places lay d s t' y (step_at (Some at.place) a d ps s) at.place → Says dev places lay d s t' y (engine.step a d ps s) (tried d ps s)
  step_placed at q t' y z =
      subst (λ n. Says dev places lay d s t' y (engine.step a d ps s) n) (ap (λ m. tried_in (near_of m)) (sym q) ∙ w)
      (subst (λ c. Says dev places lay d s t' y c at.place) (step_by (Some at.place) (ap (λ m. place_in (near_of m)) q)) z)

-- the mark that came with the place
pub asks_at : (ps : Rule) (m : Result Matched ℕ) → Asks ps m → (at : Matched) → m ≡ Ok at → at.asks ≡ asks_in ps
asks_at ps m u at q = subst (Asks ps) q u
