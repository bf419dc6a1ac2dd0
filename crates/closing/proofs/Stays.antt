-- Document 02, Item 13: an assignment leaves what stands under a closed key.
-- Assumes nothing.
use Prim.Native.Nat.{ℕ}
use mathlib.Core.Path.{◌≡◌, refl, sym, ◌∙◌}
use mathlib.Core.Bool.{Bool, true, false, not}
use mathlib.Core.List.{List, [], ◌∷◌}
use Rattle.std.specs.Prelude.{Option, None, Some}
use native.Mathlib.Omega.{arith}
use Rattle.lists.specs.Checked.{Checked, refused, ok, ◌>>=◌, found, Holds}
use Rattle.lists.specs.Runs.{chomp}
use Rattle.lists.specs.Refusal.{Refusal, command_missing}
use Rattle.lists.proofs.Checked.{holds-map, holds-bind}
use Rattle.entries.specs.Entry.{Property}
use Rattle.rules.specs.Key.{Key, ACTION, DEVPATH, KERNEL, KERNELS, SUBSYSTEM, SUBSYSTEMS, DRIVER, DRIVERS, ATTR, ATTRS, ENV, SYMLINK, TAG, OWNER, GROUP, MODE, RUN, LABEL, GOTO, OPTIONS, PROGRAM, RESULT, Op, equal, unequal, assign, add, remove, final, is_match, same_key}
use Rattle.bits.specs.Signed.{from_signed}
use Rattle.rules.specs.Pair.{Pair, Rule}
use Rattle.rules.specs.Setting.{Setting, escape_none, escape_replace, watched, unwatched, priority, setting_of}
use Rattle.device.specs.Device.{Device}
use Rattle.outcome.specs.Head.{Closed}
use Rattle.outcome.specs.State.{Run, State}
use Rattle.outcome.specs.Change.{with_closed, with_owner, with_group, with_mode, with_priority, with_output, with_watch, with_links, with_properties, with_tags, with_runs, shut_links, shut_tags, shut_runs, shut_owner, shut_group, shut_mode}
use Rattle.text.specs.Engine.{Stepped, went}
use Rattle.engine.specs.Match.{matched}
use Rattle.engine.specs.Substitute.{filled}
use Rattle.engine.specs.Assign.{Work, is_as_is, kept, closing, names_in, change_links, source_of, linked, change_tags, tagged, change_runs, queued, owner_in, owned, grouped, mode_in, moded, change_properties, valued, set_by, leaves, assigned, assign_pair, assign_all}
use Rattle.sheet.specs.Sheet.{Reply, Sheet, reply_to}
use Rattle.engine.specs.Programs.{stored, asked, ask_pair, asked_then, ask_all, results_hold}
use Rattle.engine.specs.Step.{ended, begun, finished, step_at, step}
use Rattle.closing.specs.Closing.{ClosingKey, links, tags, runs, owner, group, mode, is_closed, Same}

-- ---- the same under a key

pub same_refl : (k : ClosingKey) (s : State) → Same k s s
same_refl links s = (refl, refl)
same_refl tags s = (refl, refl)
same_refl runs s = (refl, refl)
same_refl owner s = (refl, refl)
same_refl group s = (refl, refl)
same_refl mode s = (refl, refl)

pub same_trans : (k : ClosingKey) (s t u : State) → Same k s t → Same k t u → Same k s u
same_trans links s t u (a, b) (c, d) = (a ∙ c, b ∙ d)
same_trans tags s t u (a, b) (c, d) = (a ∙ c, b ∙ d)
same_trans runs s t u (a, b) (c, d) = (a ∙ c, b ∙ d)
same_trans owner s t u (a, b) (c, d) = (a ∙ c, b ∙ d)
same_trans group s t u (a, b) (c, d) = (a ∙ c, b ∙ d)
same_trans mode s t u (a, b) (c, d) = (a ∙ c, b ∙ d)

-- a key that was closed still is
pub same-closed : (k : ClosingKey) (s t : State) → Same k s t → is_closed k s ≡ true → is_closed k t ≡ true
same-closed links s t (a, b) h = sym b ∙ h
same-closed tags s t (a, b) h = sym b ∙ h
same-closed runs s t (a, b) h = sym b ∙ h
same-closed owner s t (a, b) h = sym b ∙ h
same-closed group s t (a, b) h = sym b ∙ h
same-closed mode s t (a, b) h = sym b ∙ h

-- ---- a change under one key leaves every closed one

-- no flag is both
clash : {X : Type 0} (b : Bool) → b ≡ true → b ≡ false → X
clash b p q = let z : ◌≡◌ {A = ℕ} 0 1 = cc in absurd (omega arith)

closing_either : (P : State → Type 0) (o : Op) (f : Closed → Closed) (s : State) → P s → P (with_closed s (f s.closed)) → P (closing o f s)
closing_either P equal f s a b = a
closing_either P unequal f s a b = a
closing_either P assign f s a b = a
closing_either P add f s a b = a
closing_either P remove f s a b = a
closing_either P final f s a b = b

links_stay : (k : ClosingKey) (s : State) → is_closed k s ≡ true → s.closed.links ≡ false → (o : Op) (x : List (List ℕ)) → Same k s (closing o shut_links (with_links s x))
links_stay links s h e o x = clash s.closed.links h e
links_stay tags s h e o x = closing_either (Same tags s) o shut_links (with_links s x) (refl, refl) (refl, refl)
links_stay runs s h e o x = closing_either (Same runs s) o shut_links (with_links s x) (refl, refl) (refl, refl)
links_stay owner s h e o x = closing_either (Same owner s) o shut_links (with_links s x) (refl, refl) (refl, refl)
links_stay group s h e o x = closing_either (Same group s) o shut_links (with_links s x) (refl, refl) (refl, refl)
links_stay mode s h e o x = closing_either (Same mode s) o shut_links (with_links s x) (refl, refl) (refl, refl)

tags_stay : (k : ClosingKey) (s : State) → is_closed k s ≡ true → s.closed.tags ≡ false → (o : Op) (x : List (List ℕ)) → Same k s (closing o shut_tags (with_tags s x))
tags_stay links s h e o x = closing_either (Same links s) o shut_tags (with_tags s x) (refl, refl) (refl, refl)
tags_stay tags s h e o x = clash s.closed.tags h e
tags_stay runs s h e o x = closing_either (Same runs s) o shut_tags (with_tags s x) (refl, refl) (refl, refl)
tags_stay owner s h e o x = closing_either (Same owner s) o shut_tags (with_tags s x) (refl, refl) (refl, refl)
tags_stay group s h e o x = closing_either (Same group s) o shut_tags (with_tags s x) (refl, refl) (refl, refl)
tags_stay mode s h e o x = closing_either (Same mode s) o shut_tags (with_tags s x) (refl, refl) (refl, refl)

runs_stay : (k : ClosingKey) (s : State) → is_closed k s ≡ true → s.closed.runs ≡ false → (o : Op) (x : List Run) → Same k s (closing o shut_runs (with_runs s x))
runs_stay links s h e o x = closing_either (Same links s) o shut_runs (with_runs s x) (refl, refl) (refl, refl)
runs_stay tags s h e o x = closing_either (Same tags s) o shut_runs (with_runs s x) (refl, refl) (refl, refl)
runs_stay runs s h e o x = clash s.closed.runs h e
runs_stay owner s h e o x = closing_either (Same owner s) o shut_runs (with_runs s x) (refl, refl) (refl, refl)
runs_stay group s h e o x = closing_either (Same group s) o shut_runs (with_runs s x) (refl, refl) (refl, refl)
runs_stay mode s h e o x = closing_either (Same mode s) o shut_runs (with_runs s x) (refl, refl) (refl, refl)

owner_stay : (k : ClosingKey) (s : State) → is_closed k s ≡ true → s.closed.owner ≡ false → (o : Op) (x : List ℕ) → Same k s (closing o shut_owner (with_owner s x))
owner_stay links s h e o x = closing_either (Same links s) o shut_owner (with_owner s x) (refl, refl) (refl, refl)
owner_stay tags s h e o x = closing_either (Same tags s) o shut_owner (with_owner s x) (refl, refl) (refl, refl)
owner_stay runs s h e o x = closing_either (Same runs s) o shut_owner (with_owner s x) (refl, refl) (refl, refl)
owner_stay owner s h e o x = clash s.closed.owner h e
owner_stay group s h e o x = closing_either (Same group s) o shut_owner (with_owner s x) (refl, refl) (refl, refl)
owner_stay mode s h e o x = closing_either (Same mode s) o shut_owner (with_owner s x) (refl, refl) (refl, refl)

group_stay : (k : ClosingKey) (s : State) → is_closed k s ≡ true → s.closed.group ≡ false → (o : Op) (x : List ℕ) → Same k s (closing o shut_group (with_group s x))
group_stay links s h e o x = closing_either (Same links s) o shut_group (with_group s x) (refl, refl) (refl, refl)
group_stay tags s h e o x = closing_either (Same tags s) o shut_group (with_group s x) (refl, refl) (refl, refl)
group_stay runs s h e o x = closing_either (Same runs s) o shut_group (with_group s x) (refl, refl) (refl, refl)
group_stay owner s h e o x = closing_either (Same owner s) o shut_group (with_group s x) (refl, refl) (refl, refl)
group_stay group s h e o x = clash s.closed.group h e
group_stay mode s h e o x = closing_either (Same mode s) o shut_group (with_group s x) (refl, refl) (refl, refl)

mode_stay : (k : ClosingKey) (s : State) → is_closed k s ≡ true → s.closed.mode ≡ false → (o : Op) (x : ℕ) → Same k s (closing o shut_mode (with_mode s x))
mode_stay links s h e o x = closing_either (Same links s) o shut_mode (with_mode s x) (refl, refl) (refl, refl)
mode_stay tags s h e o x = closing_either (Same tags s) o shut_mode (with_mode s x) (refl, refl) (refl, refl)
mode_stay runs s h e o x = closing_either (Same runs s) o shut_mode (with_mode s x) (refl, refl) (refl, refl)
mode_stay owner s h e o x = closing_either (Same owner s) o shut_mode (with_mode s x) (refl, refl) (refl, refl)
mode_stay group s h e o x = closing_either (Same group s) o shut_mode (with_mode s x) (refl, refl) (refl, refl)
mode_stay mode s h e o x = clash s.closed.mode h e

properties_stay : (k : ClosingKey) (s : State) (x : List Property) → Same k s (with_properties s x)
properties_stay links s x = (refl, refl)
properties_stay tags s x = (refl, refl)
properties_stay runs s x = (refl, refl)
properties_stay owner s x = (refl, refl)
properties_stay group s x = (refl, refl)
properties_stay mode s x = (refl, refl)

priority_stay : (k : ClosingKey) (s : State) (x : ℕ) → Same k s (with_priority s x)
priority_stay links s x = (refl, refl)
priority_stay tags s x = (refl, refl)
priority_stay runs s x = (refl, refl)
priority_stay owner s x = (refl, refl)
priority_stay group s x = (refl, refl)
priority_stay mode s x = (refl, refl)

output_stay : (k : ClosingKey) (s : State) (x : List ℕ) → Same k s (with_output s x)
output_stay links s x = (refl, refl)
output_stay tags s x = (refl, refl)
output_stay runs s x = (refl, refl)
output_stay owner s x = (refl, refl)
output_stay group s x = (refl, refl)
output_stay mode s x = (refl, refl)

watch_stay : (k : ClosingKey) (s : State) (x : ℕ) → Same k s (with_watch s x)
watch_stay links s x = (refl, refl)
watch_stay tags s x = (refl, refl)
watch_stay runs s x = (refl, refl)
watch_stay owner s x = (refl, refl)
watch_stay group s x = (refl, refl)
watch_stay mode s x = (refl, refl)

-- ---- one assignment

anything : {R A : Type 0} (c : Checked R A) → Holds (λ (_ : A). Unit {0}) c
anything (refused f) = tt
anything (ok a) = tt

-- whatever a check gives, what follows it holds
after_any : {R A B : Type 0} (Q : B → Type 0) (c : Checked R A) (f : A → Checked R B) → ((a : A) → Holds Q (f a)) → Holds Q (c >>= f)
after_any {A = A} Q c f h = holds-bind (λ (_ : A). Unit {0}) Q c f (anything c) (λ a _. h a)

-- a work that leaves what stands under a key
abbrev pub Stays : ClosingKey → State → Work → Type 0
Stays k s w = Same k s w.state

leaves_stay : (k : ClosingKey) (w : Work) (c : Checked Refusal State) → Holds (Same k w.state) c → Holds (Stays k w.state) (leaves w c)
leaves_stay k w (refused f) h = tt
leaves_stay k w (ok s) h = h

set_stays : (k : ClosingKey) (o : Option Setting) (w : Work) → Stays k w.state (set_by o w)
set_stays k None w = same_refl k w.state
set_stays k (Some escape_none) w = same_refl k w.state
set_stays k (Some escape_replace) w = same_refl k w.state
set_stays k (Some watched) w = watch_stay k w.state 1
set_stays k (Some unwatched) w = watch_stay k w.state 2
set_stays k (Some (priority z)) w = priority_stay k w.state (from_signed z)

module _ (k : ClosingKey) (d : Device) (place : ℕ) (p : Pair) where
  linked_stays : (w : Work) → is_closed k w.state ≡ true → w.state.closed.links ≡ false → Holds (Same k w.state) (linked d place p w)
  unfolding linked
  linked_stays w h e =
      after_any (Same k w.state) (filled (not (is_as_is w.escape)) (source_of d place w.state) p.value) _
      (λ t. after_any (Same k w.state) (change_links p.op (names_in w.escape t) (kept p.op w.state.links)) _
      (λ ls. links_stay k w.state h e p.op ls))

  tagged_stays : (s : State) → is_closed k s ≡ true → s.closed.tags ≡ false → Holds (Same k s) (tagged p s)
  unfolding tagged
  tagged_stays s h e = after_any (Same k s) (change_tags p.op p.value (kept p.op s.tags)) _ (λ ts. tags_stay k s h e p.op ts)

  queued_stays : (s : State) → is_closed k s ≡ true → s.closed.runs ≡ false → Holds (Same k s) (queued place p s)
  unfolding queued
  queued_stays s h e = after_any (Same k s) (change_runs place p (kept p.op s.runs)) _ (λ rs. runs_stay k s h e p.op rs)

  owned_stays : (s : State) → is_closed k s ≡ true → s.closed.owner ≡ false → Holds (Same k s) (owned d place p s)
  unfolding owned
  owned_stays s h e =
      after_any (Same k s) (filled false (source_of d place s) p.value) _
      (λ t. after_any (Same k s) (owner_in t) _ (λ x. owner_stay k s h e p.op x))

  grouped_stays : (s : State) → is_closed k s ≡ true → s.closed.group ≡ false → Holds (Same k s) (grouped d place p s)
  unfolding grouped
  grouped_stays s h e =
      after_any (Same k s) (filled false (source_of d place s) p.value) _
      (λ t. after_any (Same k s) (owner_in t) _ (λ x. group_stay k s h e p.op x))

  moded_stays : (s : State) → is_closed k s ≡ true → s.closed.mode ≡ false → Holds (Same k s) (moded d place p s)
  unfolding moded
  moded_stays s h e =
      after_any (Same k s) (filled false (source_of d place s) p.value) _
      (λ t. after_any (Same k s) (mode_in t) _ (λ m. mode_stay k s h e p.op m))

  valued_stays : (w : Work) → Holds (Same k w.state) (valued w.escape p w.state)
  unfolding valued
  valued_stays w = after_any (Same k w.state) (change_properties w.escape p.argument p.value w.state.properties) _ (λ ps. properties_stay k w.state ps)

  -- a key that is open is changed, one that is closed is skipped
  gate : (w : Work) (flag : Bool) (c : Checked Refusal State) → (flag ≡ false → Holds (Same k w.state) c)
      → Holds {R = Refusal} (Stays k w.state) (elim flag as (λ _. Checked Refusal Work) [ true ↦ ok w | false ↦ leaves w c ])
  gate w true c h = same_refl k w.state
  gate w false c h = leaves_stay k w c (h refl)

  assigned_stays : (key : Key) (w : Work) → is_closed k w.state ≡ true → Holds (Stays k w.state) (assigned key d place p w)
  unfolding assigned
  assigned_stays SYMLINK w h = gate w w.state.closed.links (linked d place p w) (λ e. linked_stays w h e)
  assigned_stays TAG w h = gate w w.state.closed.tags (tagged p w.state) (λ e. tagged_stays w.state h e)
  assigned_stays RUN w h = gate w w.state.closed.runs (queued place p w.state) (λ e. queued_stays w.state h e)
  assigned_stays OWNER w h = gate w w.state.closed.owner (owned d place p w.state) (λ e. owned_stays w.state h e)
  assigned_stays GROUP w h = gate w w.state.closed.group (grouped d place p w.state) (λ e. grouped_stays w.state h e)
  assigned_stays MODE w h = gate w w.state.closed.mode (moded d place p w.state) (λ e. moded_stays w.state h e)
  assigned_stays ENV w h = leaves_stay k w (valued w.escape p w.state) (valued_stays w)
  assigned_stays OPTIONS w h = set_stays k (setting_of p.value) w
  assigned_stays ACTION w h = same_refl k w.state
  assigned_stays DEVPATH w h = same_refl k w.state
  assigned_stays KERNEL w h = same_refl k w.state
  assigned_stays KERNELS w h = same_refl k w.state
  assigned_stays SUBSYSTEM w h = same_refl k w.state
  assigned_stays SUBSYSTEMS w h = same_refl k w.state
  assigned_stays DRIVER w h = same_refl k w.state
  assigned_stays DRIVERS w h = same_refl k w.state
  assigned_stays ATTR w h = same_refl k w.state
  assigned_stays ATTRS w h = same_refl k w.state
  assigned_stays LABEL w h = same_refl k w.state
  assigned_stays GOTO w h = same_refl k w.state
  assigned_stays PROGRAM w h = same_refl k w.state
  assigned_stays RESULT w h = same_refl k w.state

  pub pair_stays : (w : Work) → is_closed k w.state ≡ true → Holds (Stays k w.state) (assign_pair d place p w)
  unfolding assign_pair
  pair_stays w h = at (is_match p.op)
    where
      at : (t : Bool) → Holds {R = Refusal} (Stays k w.state) (elim t as (λ _. Checked Refusal Work) [ true ↦ ok w | false ↦ assigned p.key d place p w ])
      at true = same_refl k w.state
      at false = assigned_stays p.key w h

-- ---- a rule

module _ (k : ClosingKey) (d : Device) where
  pub all_stay : (place : ℕ) (r : Rule) (w : Work) → is_closed k w.state ≡ true → Holds (Stays k w.state) (assign_all d place r w)
  unfolding assign_all
  all_stay place [] w h = same_refl k w.state
  all_stay place (p ∷ r) w h =
      holds-bind (Stays k w.state) (Stays k w.state) (assign_pair d place p w) (λ w'. assign_all d place r w') (pair_stays k d place p w h)
      (λ w' i. holds-map (Stays k w'.state) (Stays k w.state) (assign_all d place r w') (all_stay place r w' (same-closed k w.state w'.state i h))
      (λ w'' j. same_trans k w.state w'.state w''.state i j))

  -- a step that leaves what stands under a key
  abbrev pub StepStays : State → Stepped State → Type 0
  StepStays s (went s' held) = Same k s s'

  ended_stays : (s : State) (c : Checked Refusal Work) → Holds (Stays k s) c → Holds (StepStays s) (ended c)
  ended_stays s (refused f) h = tt
  ended_stays s (ok w) h = h

  stored_stays : (r : Reply) (s : State) → Same k s (stored r s)
  unfolding stored
  stored_stays r s = at r.success
    where
      at : (t : Bool) → Same k s (elim t as (λ _. State) [ true ↦ with_output s (chomp r.output) | false ↦ s ])
      at true = output_stay k s (chomp r.output)
      at false = same_refl k s

  module _ (a : Sheet) where
    asked_stays : (place : ℕ) (p : Pair) (s : State) → Holds (StepStays s) (asked a d place p s)
    unfolding asked
    asked_stays place p s =
        after_any (StepStays s) (filled false (source_of d place s) p.value) _ (λ c. after_any (StepStays s) (found (reply_to c a) command_missing) _ (λ r. stored_stays r s))

    ask_stays : (place : ℕ) (p : Pair) (s : State) → Holds (StepStays s) (ask_pair a d place p s)
    unfolding ask_pair
    ask_stays place p s = at (same_key p.key PROGRAM)
      where
        at : (t : Bool) → Holds {R = Refusal} (StepStays s) (elim t as (λ _. Checked Refusal (Stepped State)) [ true ↦ asked a d place p s | false ↦ ok (went s true) ])
        at true = asked_stays place p s
        at false = same_refl k s

    -- what follows a step that stays, stays
    then_stays : (s : State) (c : Checked Refusal (Stepped State)) (f : State → Checked Refusal (Stepped State)) → is_closed k s ≡ true → Holds (StepStays s) c
        → ((s' : State) → is_closed k s' ≡ true → Holds (StepStays s') (f s')) → Holds (StepStays s) (c >>= λ x. asked_then x f)
    then_stays s (refused r) f h i g = tt
    then_stays s (ok (went s' false)) f h i g = i
    then_stays s (ok (went s' true)) f h i g =
        holds-map (StepStays s') (StepStays s) (f s') (g s' (same-closed k s s' i h)) (λ x j. on x j)
      where
        on : (x : Stepped State) → StepStays s' x → StepStays s x
        on (went s'' held) j = same_trans k s s' s'' i j

    pub asks_stay : (place : ℕ) (r : Rule) (s : State) → is_closed k s ≡ true → Holds (StepStays s) (ask_all a d place r s)
    unfolding ask_all
    asks_stay place [] s h = same_refl k s
    asks_stay place (p ∷ r) s h = then_stays s (ask_pair a d place p s) (λ s'. ask_all a d place r s') h (ask_stays place p s) (λ s' h'. asks_stay place r s' h')

    finished_stays : (place : ℕ) (r : Rule) (s : State) → is_closed k s ≡ true → Holds (StepStays s) (finished d place r s)
    unfolding finished
    finished_stays place r s h = at (results_hold s r)
      where
        at : (t : Bool) → Holds {R = Refusal} (StepStays s) (elim t as (λ _. Checked Refusal (Stepped State)) [ true ↦ ended (assign_all d place r (begun s)) | false ↦ ok (went s false) ])
        at true = ended_stays s (assign_all d place r (begun s)) (all_stay place r (begun s) h)
        at false = same_refl k s

    pub step_stays : (r : Rule) (s : State) → is_closed k s ≡ true → Holds (StepStays s) (step a d r s)
    unfolding step step_at
    step_stays r s h = at (matched d s r)
      where
        at : (o : Option ℕ) → Holds (StepStays s) (step_at o a d r s)
        at None = same_refl k s
        at (Some place) = then_stays s (ask_all a d place r s) (finished d place r) h (asks_stay place r s h) (λ s' h'. finished_stays place r s' h')
