-- A planned rule does nothing on a device of another path, and names the device of its own.
-- Assumes nothing.
use Prim.Native.Nat.{ℕ, suc, ◌≤◌}
use mathlib.Core.Path.{◌≡◌, refl, sym, ap, ap₂, ◌∙◌}
use mathlib.Core.Logic.{◌⊎◌, inl, inr}
use mathlib.Core.Bool.{Bool, true, false, not, ◌&&◌, ◌||◌}
use mathlib.Core.List.{List, [], ◌∷◌, map}
use Rattle.std.specs.Prelude.{Option, None, Some}
use native.Mathlib.Omega.{arith}
use lib.Dec.{eqb, leb}
use lib.ListN.{length}
use borrow.Author.Tests.{le-leb, leb-true, not-true}
use Rattle.lists.specs.Lists.{pick, all, is_empty, All}
use Rattle.lists.specs.Bytes.{same_bytes, among, distinct}
use Rattle.lists.specs.Runs.{split_at}
use Rattle.lists.specs.Checked.{Checked, refused, ok, ◌>>=◌, Placed, line}
use Rattle.lists.specs.Refusal.{Refusal}
use Rattle.lists.proofs.Tests.{and_both, neither, or-true}
use Rattle.lists.proofs.Bytes.{same_refl, same-eq}
use Rattle.lists.proofs.Scan.{part-all}
use Rattle.pattern.proofs.Plain.{plain-matches}
use Rattle.template.specs.Template.{Piece, written}
use Rattle.rules.specs.Key.{SYMLINK}
use Rattle.rules.specs.Pair.{Rule, value_of}
use Rattle.device.specs.Device.{Device}
use Rattle.outcome.specs.Content.{ok_name, ok_part}
use Rattle.outcome.specs.State.{State}
use Rattle.outcome.specs.Change.{with_links}
use Rattle.outcome.specs.Edits.{add_entry}
use Rattle.text.specs.Engine.{went}
use Rattle.text.specs.Running.{next, Ran, more, run_from}
use Rattle.engine.specs.Match.{matched, tried, all_hold, pair_holds, key_holds, value_holds, place_of, has_parents}
use Rattle.engine.specs.Substitute.{Source, inserted, piece_text, text_of, pieces_of, substituted, within, filled}
use Rattle.engine.specs.Assign.{Work, unset, link_byte, cleaned, names_in, source_of, change_entry, change_links, linked, leaves, assigned, assign_pair, assign_all}
use Rattle.sheet.specs.Sheet.{Sheet}
use Rattle.engine.specs.Programs.{ask_pair, ask_all, result_holds, results_hold}
use Rattle.engine.specs.Step.{ended, begun, finished, step_at, step}
use Rattle.engine.specs.Operations.{engine}
use Rattle.plan.specs.Plan.{Naming, path_of, plan_byte, plan_path, plan_link, plan_naming}
use Rattle.plan.proofs.Reading.{not_in, class_all, path-plain, link_pieces, link_pair, rule_of}

-- ---- the link that a rule writes

text-written : (t : Bool) (c : Source) (v : List ℕ) → text_of t c (map written v) ≡ v
unfolding text_of piece_text inserted
text-written t c [] = refl
text-written t c (b ∷ v) = ap (λ (l : List ℕ). b ∷ l) (text-written t c v)

substituted-plain : (t : Bool) (c : Source) (v : List ℕ) → all link_byte v ≡ true → substituted t c v ≡ v
unfolding substituted
substituted-plain t c v h = ap (λ (o : Option (List Piece)). text_of t c (pieces_of o)) (link_pieces v h) ∙ text-written t c v

within_small : (v : List ℕ) → length v ≤ 128 → within v ≡ ok v
within_small v l = rw (le-leb (length v) 512 (omega arith), within)

filled-plain : (t : Bool) (c : Source) (v : List ℕ) → all link_byte v ≡ true → length v ≤ 128 → filled t c v ≡ ok v
unfolding filled
filled-plain t c v h l = ap within (substituted-plain t c v h) ∙ within_small v l

clean-same : (v : List ℕ) → all link_byte v ≡ true → cleaned v ≡ v
clean-same [] h = refl
clean-same (b ∷ v) h =
    let (p, q) = and_both (link_byte b) (all link_byte v) h in
    ap₂ (λ (x : ℕ) (l : List ℕ). x ∷ l) (ap (λ (t : Bool). pick t b 95) p) (clean-same v q)

-- a name that passes check 31 is not empty
named_some : (v : List ℕ) → ok_name v ≡ true → is_empty v ≡ false
unfolding split_at
named_some [] h = let z : ◌≡◌ {A = ℕ} 0 1 = cc in absurd (omega arith)
named_some (b ∷ v) h = refl

names-plain : (v : List ℕ) → all link_byte v ≡ true → ok_name v ≡ true → names_in unset v ≡ v ∷ []
unfolding names_in
names-plain v h n =
    let s : split_at 32 v ≡ v ∷ [] = part-all 32 v (class_all link_byte (λ b. not (eqb b 32)) (λ b i. ap not (not_in link_byte 32 refl b i)) v h) in
    rw (s, named_some v n, clean-same v h)

opened : (b : Bool) (w : Work) (c : Checked Refusal Work) → b ≡ false → ◌≡◌ {A = Checked Refusal Work} (elim b as (λ _. Checked Refusal Work) [ true ↦ ok w | false ↦ c ]) c
opened false w c h = refl
opened true w c h = let z : ◌≡◌ {A = ℕ} 0 1 = cc in absurd (omega arith)

-- ---- one rule

module _ (a : Sheet) (d : Device) (path link : List ℕ) (p : all plan_byte path ≡ true) (x : all link_byte link ≡ true) (n : length link ≤ 128) (o : ok_name link ≡ true) where
  holds-path : (s : State) → all_hold d s (rule_of path link) ≡ (same_bytes path d.event.path && true)
  unfolding all_hold pair_holds key_holds value_holds
  holds-path s = ap (λ (t : Bool). t && true) (plain-matches path d.event.path (path-plain path p))

  matched-path : (s : State) (t : Bool) → same_bytes path d.event.path ≡ t → matched d s (rule_of path link) ≡ pick t (Some 0) None
  unfolding matched place_of has_parents
  matched-path s true e = rw (holds-path s ∙ ap (λ (t : Bool). t && true) e, matched)
  matched-path s false e = rw (holds-path s ∙ ap (λ (t : Bool). t && true) e, matched)

  pub step_other : (s : State) → same_bytes path d.event.path ≡ false → step a d (rule_of path link) s ≡ ok (went s false)
  unfolding step step_at
  step_other s e = rw (matched-path s false e)

  linked_own : (s : State) → linked d 0 (link_pair link) (begun s) ≡ ok (with_links s (link ∷ []))
  unfolding linked change_links change_entry add_entry
  linked_own s = rw (filled-plain true (source_of d 0 s) link x n, names-plain link x o, o)

  assigned_own : (s : State) → s.closed.links ≡ false → assigned SYMLINK d 0 (link_pair link) (begun s) ≡ ok (begun (with_links s (link ∷ [])))
  unfolding assigned
  assigned_own s c = opened s.closed.links (begun s) (leaves (begun s) (linked d 0 (link_pair link) (begun s))) c ∙ ap (leaves (begun s)) (linked_own s)

  pub step_own : (s : State) → s.closed.links ≡ false → same_bytes path d.event.path ≡ true → step a d (rule_of path link) s ≡ ok (went (with_links s (link ∷ [])) true)
  unfolding step step_at finished ask_all ask_pair results_hold result_holds assign_all assign_pair
  step_own s c e =
      rw (matched-path s true e)
      (ap (λ (w : Checked Refusal Work). ended (w >>= λ w'. ok w')) (assigned_own s c))

-- ---- the rules of a plan

-- what a naming that a plan can speak of is
pub record Ready (n : Naming) : Type 0 where
  pub path : all plan_byte (path_of n) ≡ true
  pub short : length (path_of n) ≤ 128
  pub link : all link_byte n.link ≡ true
  pub small : length n.link ≤ 128
  pub named : ok_name n.link ≡ true

pub ready : (n : Naming) → plan_naming n ≡ true → Ready n
ready n h =
    let (w, l) = and_both (plan_path (path_of n)) (plan_link n.link) h in
    let (a, b) = and_both (leb (length (path_of n)) 128) (all plan_byte (path_of n)) w in
    let (c, e) = and_both (all link_byte n.link) (ok_name n.link) l in
    record {
      path = b;
      short = leb-true (length (path_of n)) 128 a;
      link = c;
      small = leb-true (length n.link) 128 (and_both (leb (length n.link) 128) (all ok_part (split_at 47 n.link)) e).0;
      named = e;
    }

abbrev pub rules_from : ℕ → List Naming → List (Placed Rule)
rules_from k [] = []
rules_from k (n ∷ ns) = line k (rule_of (path_of n) n.link) ∷ rules_from (suc k) ns

-- a run that is not refused, and what holds of the state that it leaves
abbrev pub Ends : (State → Type 0) → Ran State → Type 0
Ends P (refused f) = ⊥
Ends P (ok h) = P h.state

ends_more : (P : State → Type 0) (v w : ℕ) (c : Ran State) → Ends P c → Ends P (more v w c)
ends_more P v w (refused f) h = h
ends_more P v w (ok h) k = k

-- on a device of another path nothing changes
module _ (a : Sheet) (d : Device) where
  one-rule : (P : State → Type 0) (k : ℕ) (n : Naming) (rest : List (Placed Rule)) (s s' : State) (held : Bool) → step a d (rule_of (path_of n) n.link) s ≡ ok (went s' held)
      → Ends P (run_from (engine a) d next s' rest) → Ends P (run_from (engine a) d next s (line k (rule_of (path_of n) n.link) ∷ rest))
  unfolding run_from value_of
  one-rule P k n rest s s' false e h = rw e (ends_more P 1 (tried d (rule_of (path_of n) n.link) s) (run_from (engine a) d next s' rest) h)
  one-rule P k n rest s s' true e h = rw e (ends_more P 1 (tried d (rule_of (path_of n) n.link) s) (run_from (engine a) d next s' rest) h)

  pub others-run : (P : State → Type 0) (k : ℕ) (ns : List Naming) → All Ready ns → among d.event.path (map path_of ns) ≡ false
      → (s : State) → P s → Ends P (run_from (engine a) d next s (rules_from k ns))
  others-run P k [] r h s p = unfold run_from in p
  others-run P k (n ∷ ns) (r, rs) h s p =
      let (u, b) = neither (same_bytes (path_of n) d.event.path) (among d.event.path (map path_of ns)) h in
      one-rule P k n (rules_from (suc k) ns) s s false (step_other a d (path_of n) n.link r.path r.link r.small r.named s u)
      (others-run P (suc k) ns rs b s p)

-- ---- a device of the plan

abbrev pub In : Naming → List Naming → Type 0
In n [] = ⊥
In n (m ∷ ms) = (m ≡ n) ⊎ In n ms

in_among : (n : Naming) (ms : List Naming) → In n ms → among (path_of n) (map path_of ms) ≡ true
in_among n [] h = absurd h
in_among n (m ∷ ms) (inl e) = ap (λ (t : Bool). t || among (path_of n) (map path_of ms)) (ap (λ (m : Naming). same_bytes (path_of m) (path_of n)) e ∙ same_refl (path_of n))
in_among n (m ∷ ms) (inr h) = ap (λ (t : Bool). same_bytes (path_of m) (path_of n) || t) (in_among n ms h) ∙ or-true (same_bytes (path_of m) (path_of n))

-- of distinct paths, a later one is another
later_other : (x y : List ℕ) (ys : List (List ℕ)) → among y ys ≡ true → among x ys ≡ false → same_bytes x y ≡ false
later_other x y ys h k = at (same_bytes x y) refl
  where
    at : (t : Bool) → same_bytes x y ≡ t → same_bytes x y ≡ false
    at false e = e
    at true e =
        let w : x ≡ y = same-eq x y e in
        let z : ◌≡◌ {A = Bool} true false = sym h ∙ ap (λ (l : List ℕ). among l ys) (sym w) ∙ k in
        let u : ◌≡◌ {A = ℕ} 0 1 = cc in
        absurd (omega arith)

pub own_run : (a : Sheet) (k : ℕ) (n : Naming) (ns : List Naming) → All Ready ns → distinct (map path_of ns) ≡ true → In n ns → (s : State) → s.closed.links ≡ false
    → Ends (λ (s : State). s.links ≡ n.link ∷ []) (run_from (engine a) n.device next s (rules_from k ns))
own_run a k n [] r h i s c = absurd i
own_run a k n (m ∷ ns) (r, rs) h (inl e) s c =
    let (u, b) = and_both (not (among (path_of m) (map path_of ns))) (distinct (map path_of ns)) h in
    let own : same_bytes (path_of m) (path_of n) ≡ true = ap (λ (m : Naming). same_bytes (path_of m) (path_of n)) e ∙ same_refl (path_of n) in
    let away : among (path_of n) (map path_of ns) ≡ false = ap (λ (x : Naming). among (path_of x) (map path_of ns)) (sym e) ∙ not-true (among (path_of m) (map path_of ns)) u in
    one-rule a n.device (λ (s : State). s.links ≡ n.link ∷ []) k m (rules_from (suc k) ns) s (with_links s (m.link ∷ [])) true
    (step_own a n.device (path_of m) m.link r.path r.link r.small r.named s c own)
    (others-run a n.device (λ (s : State). s.links ≡ n.link ∷ []) (suc k) ns rs away (with_links s (m.link ∷ [])) (ap (λ (x : Naming). x.link ∷ []) e))
own_run a k n (m ∷ ns) (r, rs) h (inr i) s c =
    let (u, b) = and_both (not (among (path_of m) (map path_of ns))) (distinct (map path_of ns)) h in
    let other = later_other (path_of m) (path_of n) (map path_of ns) (in_among n ns i) (not-true (among (path_of m) (map path_of ns)) u) in
    one-rule a n.device (λ (s : State). s.links ≡ n.link ∷ []) k m (rules_from (suc k) ns) s s false
    (step_other a n.device (path_of m) m.link r.path r.link r.small r.named s other)
    (own_run a (suc k) n ns rs b i s c)
