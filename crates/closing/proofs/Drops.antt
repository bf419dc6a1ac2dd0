-- Document 02, Item 13: with a key closed, a rule does what it does without its assignments to that key.
-- Assumes nothing.
use Prim.Native.Nat.{ℕ, suc}
use mathlib.Core.Path.{◌≡◌, refl, sym, ap, ap₂, ◌∙◌}
use mathlib.Core.Bool.{Bool, true, false, not, ◌&&◌, ◌||◌}
use mathlib.Core.List.{List, [], ◌∷◌}
use Rattle.std.specs.Prelude.{Option, None, Some}
use Rattle.std.proofs.lemmas.Option.{same_Some}
use native.Mathlib.Omega.{arith}
use lib.ListN.{length}
use borrow.Author.Tests.{eqb-true, not-true}
use Rattle.lists.specs.Lists.{pick, all, any, reject, nth}
use Rattle.lists.specs.Checked.{Checked, refused, ok, ◌>>=◌, Holds}
use Rattle.lists.specs.Refusal.{Refusal}
use Rattle.lists.proofs.Tests.{and_both}
use Rattle.rules.specs.Key.{Key, ACTION, DEVPATH, KERNEL, KERNELS, SUBSYSTEM, SUBSYSTEMS, DRIVER, DRIVERS, ATTR, ATTRS, ENV, SYMLINK, TAG, OWNER, GROUP, MODE, RUN, LABEL, GOTO, OPTIONS, PROGRAM, RESULT, key_number, same_key, is_match}
use Rattle.rules.specs.Pair.{Pair, Rule, value_of, label_of, goto_of}
use Rattle.device.specs.Device.{Member, Device, chain}
use Rattle.outcome.specs.State.{State}
use Rattle.engine.specs.Match.{pair_holds, all_hold, is_parent, has_parents, parent_holds, parents_hold, nearest, place_of, matched, place_or, tried}
use Rattle.engine.specs.Assign.{Work, leaves, linked, tagged, queued, owned, grouped, moded, assigned, assign_pair, assign_all}
use Rattle.text.specs.Engine.{Stepped, went}
use Rattle.sheet.specs.Sheet.{Sheet}
use Rattle.engine.specs.Programs.{ask_pair, asked_then, ask_all, result_holds, results_hold}
use Rattle.engine.specs.Step.{ended, begun, finished, step_at, step}
use Rattle.closing.specs.Closing.{ClosingKey, links, tags, runs, owner, group, mode, key_of, is_closed, assigns_to, drop_rule}
use Rattle.closing.proofs.Stays.{same-closed, Stays, pair_stays, StepStays, asks_stay}

-- ---- keys by their numbers

every : List Key
every =
    ACTION ∷ DEVPATH ∷ KERNEL ∷ KERNELS ∷ SUBSYSTEM ∷ SUBSYSTEMS ∷ DRIVER ∷ DRIVERS ∷ ATTR ∷ ATTRS ∷ ENV ∷ SYMLINK ∷ TAG ∷ OWNER ∷ GROUP ∷ MODE ∷ RUN ∷ LABEL ∷ GOTO ∷ OPTIONS ∷ PROGRAM ∷ RESULT ∷ []

at_number : (a : Key) → nth (key_number a) every ≡ Some a
unfolding every
at_number ACTION = refl
at_number DEVPATH = refl
at_number KERNEL = refl
at_number KERNELS = refl
at_number SUBSYSTEM = refl
at_number SUBSYSTEMS = refl
at_number DRIVER = refl
at_number DRIVERS = refl
at_number ATTR = refl
at_number ATTRS = refl
at_number ENV = refl
at_number SYMLINK = refl
at_number TAG = refl
at_number OWNER = refl
at_number GROUP = refl
at_number MODE = refl
at_number RUN = refl
at_number LABEL = refl
at_number GOTO = refl
at_number OPTIONS = refl
at_number PROGRAM = refl
at_number RESULT = refl

pub key_same : (a b : Key) → same_key a b ≡ true → a ≡ b
key_same a b h =
    same_Some a b
    (sym (at_number a) ∙ ap (λ (n : ℕ). nth n every) (eqb-true (key_number a) (key_number b) h) ∙ at_number b)

-- ---- a pair that is dropped

module _ (k : ClosingKey) (p : Pair) (h : assigns_to k p ≡ true) where
  pub drop_op : is_match p.op ≡ false
  drop_op = not-true (is_match p.op) (and_both (not (is_match p.op)) (same_key p.key (key_of k)) h).0

  pub drop_key : p.key ≡ key_of k
  drop_key = key_same p.key (key_of k) (and_both (not (is_match p.op)) (same_key p.key (key_of k)) h).1

no_parent : (k : ClosingKey) → is_parent (key_of k) ≡ false
no_parent links = refl
no_parent tags = refl
no_parent runs = refl
no_parent owner = refl
no_parent group = refl
no_parent mode = refl

no_label : (k : ClosingKey) → same_key (key_of k) LABEL ≡ false
no_label links = refl
no_label tags = refl
no_label runs = refl
no_label owner = refl
no_label group = refl
no_label mode = refl

no_goto : (k : ClosingKey) → same_key (key_of k) GOTO ≡ false
no_goto links = refl
no_goto tags = refl
no_goto runs = refl
no_goto owner = refl
no_goto group = refl
no_goto mode = refl

no_program : (k : ClosingKey) → same_key (key_of k) PROGRAM ≡ false
no_program links = refl
no_program tags = refl
no_program runs = refl
no_program owner = refl
no_program group = refl
no_program mode = refl

no_result : (k : ClosingKey) → same_key (key_of k) RESULT ≡ false
no_result links = refl
no_result tags = refl
no_result runs = refl
no_result owner = refl
no_result group = refl
no_result mode = refl

parent_holds_lem : (k : ClosingKey) (m : Member) (p : Pair) → parent_holds (key_of k) m p ≡ true
unfolding parent_holds
parent_holds_lem links m p = refl
parent_holds_lem tags m p = refl
parent_holds_lem runs m p = refl
parent_holds_lem owner m p = refl
parent_holds_lem group m p = refl
parent_holds_lem mode m p = refl

shut : (b : Bool) (w : Work) (c : Checked Refusal Work) → b ≡ true → ◌≡◌ {A = Checked Refusal Work} (elim b as (λ _. Checked Refusal Work) [ true ↦ ok w | false ↦ c ]) (ok w)
shut true w c h = refl
shut false w c h = let z : ◌≡◌ {A = ℕ} 0 1 = cc in absurd (omega arith)

-- a closed key takes no assignment, and refuses none
skipped : (k : ClosingKey) (d : Device) (place : ℕ) (p : Pair) (w : Work) → is_closed k w.state ≡ true → assigned (key_of k) d place p w ≡ ok w
unfolding assigned
skipped links d place p w h = shut w.state.closed.links w (leaves w (linked d place p w)) h
skipped tags d place p w h = shut w.state.closed.tags w (leaves w (tagged p w.state)) h
skipped runs d place p w h = shut w.state.closed.runs w (leaves w (queued place p w.state)) h
skipped owner d place p w h = shut w.state.closed.owner w (leaves w (owned d place p w.state)) h
skipped group d place p w h = shut w.state.closed.group w (leaves w (grouped d place p w.state)) h
skipped mode d place p w h = shut w.state.closed.mode w (leaves w (moded d place p w.state)) h

pub drop_skipped : (k : ClosingKey) (d : Device) (place : ℕ) (p : Pair) (w : Work) → assigns_to k p ≡ true → is_closed k w.state ≡ true → assign_pair d place p w ≡ ok w
unfolding assign_pair
drop_skipped k d place p w h c =
    rw (drop_op k p h, assign_pair) (ap (λ (a : Key). assigned a d place p w) (drop_key k p h) ∙ skipped k d place p w c)

-- ---- a list without some elements

module _ {A : Type 0} (out : A → Bool) where
  pub reject-all-same : (f : A → Bool) → ((a : A) → out a ≡ true → f a ≡ true) → (xs : List A) → all f (reject out xs) ≡ all f xs
  reject-all-same f h [] = refl
  reject-all-same f h (x ∷ xs) = at (out x) refl (reject-all-same f h xs)
    where
      at : (t : Bool) → out x ≡ t → all f (reject out xs) ≡ all f xs → all f (pick t (reject out xs) (x ∷ reject out xs)) ≡ (f x && all f xs)
      at true e ih = ih ∙ ap (λ (b : Bool). b && all f xs) (sym (h x e))
      at false e ih = ap (λ (b : Bool). f x && b) ih

  pub reject-any-same : (f : A → Bool) → ((a : A) → out a ≡ true → f a ≡ false) → (xs : List A) → any f (reject out xs) ≡ any f xs
  reject-any-same f h [] = refl
  reject-any-same f h (x ∷ xs) = at (out x) refl (reject-any-same f h xs)
    where
      at : (t : Bool) → out x ≡ t → any f (reject out xs) ≡ any f xs → any f (pick t (reject out xs) (x ∷ reject out xs)) ≡ (f x || any f xs)
      at true e ih = ih ∙ ap (λ (b : Bool). b || any f xs) (sym (h x e))
      at false e ih = ap (λ (b : Bool). f x || b) ih

-- ---- a rule without them

module _ (k : ClosingKey) where
  value_same : (key : Key) → same_key (key_of k) key ≡ false → (r : Rule) → value_of key (drop_rule k r) ≡ value_of key r
  unfolding value_of
  value_same key n [] = refl
  value_same key n (p ∷ r) = at (assigns_to k p) refl (value_same key n r)
    where
      at : (t : Bool) → assigns_to k p ≡ t → value_of key (drop_rule k r) ≡ value_of key r
          → value_of key (pick t (drop_rule k r) (p ∷ drop_rule k r)) ≡ pick (same_key p.key key) (Some p.value) (value_of key r)
      at true e ih = ih ∙ ap (λ (b : Bool). pick b (Some p.value) (value_of key r)) (sym (ap (λ (a : Key). same_key a key) (drop_key k p e) ∙ n))
      at false e ih = ap (λ (o : Option (List ℕ)). pick (same_key p.key key) (Some p.value) o) ih

  pub drop-label : (r : Rule) → label_of (drop_rule k r) ≡ label_of r
  drop-label r = value_same LABEL (no_label k) r

  pub drop_goto : (r : Rule) → goto_of (drop_rule k r) ≡ goto_of r
  drop_goto r = value_same GOTO (no_goto k) r

  module _ (d : Device) where
    pair_holds_lem : (s : State) (p : Pair) → assigns_to k p ≡ true → pair_holds d s p ≡ true
    unfolding pair_holds
    pair_holds_lem s p h = rw (drop_op k p h, pair_holds)

    drop-holds : (s : State) (r : Rule) → all_hold d s (drop_rule k r) ≡ all_hold d s r
    unfolding all_hold
    drop-holds s r = reject-all-same (assigns_to k) (λ p. pair_holds d s p) (pair_holds_lem s) r

    drop_parents : (r : Rule) → has_parents (drop_rule k r) ≡ has_parents r
    unfolding has_parents
    drop_parents r = reject-any-same (assigns_to k) (λ p. is_parent p.key) (λ p h. ap is_parent (drop_key k p h) ∙ no_parent k) r

    drop-member : (m : Member) (r : Rule) → parents_hold m (drop_rule k r) ≡ parents_hold m r
    unfolding parents_hold
    drop-member m r = reject-all-same (assigns_to k) (λ p. parent_holds p.key m p) (λ p h. ap (λ (a : Key). parent_holds a m p) (drop_key k p h) ∙ parent_holds_lem k m p) r

    drop-nearest : (n : ℕ) (ms : List Member) (r : Rule) → nearest n ms (drop_rule k r) ≡ nearest n ms r
    unfolding nearest
    drop-nearest n [] r = refl
    drop-nearest n (m ∷ ms) r =
        ap₂ (λ (t : Bool) (o : Option ℕ). elim t as (λ _. Option ℕ) [ true ↦ Some n | false ↦ o ]) (drop-member m r) (drop-nearest (suc n) ms r)

    drop-place : (r : Rule) → place_of d (drop_rule k r) ≡ place_of d r
    unfolding place_of
    drop-place r =
        ap₂ (λ (t : Bool) (o : Option ℕ). elim t as (λ _. Option ℕ) [ true ↦ o | false ↦ Some 0 ]) (drop_parents r) (drop-nearest 1 (chain d) r)

    pub drop-matched : (s : State) (r : Rule) → matched d s (drop_rule k r) ≡ matched d s r
    unfolding matched
    drop-matched s r =
        ap₂ (λ (t : Bool) (o : Option ℕ). elim t as (λ _. Option ℕ) [ true ↦ o | false ↦ None ]) (drop-holds s r) (drop-place r)

    -- the assignments that are left do the same
    pub drop_all : (place : ℕ) (r : Rule) (w : Work) → is_closed k w.state ≡ true → assign_all d place (drop_rule k r) w ≡ assign_all d place r w
    unfolding assign_all
    drop_all place [] w h = refl
    drop_all place (p ∷ r) w h = at (assigns_to k p) refl (drop_all place r)
      where
        on : (c : Checked Refusal Work) → Holds (Stays k w.state) c → ((w : Work) → is_closed k w.state ≡ true → assign_all d place (drop_rule k r) w ≡ assign_all d place r w)
            → (c >>= λ w'. assign_all d place (drop_rule k r) w') ≡ (c >>= λ w'. assign_all d place r w')
        on (refused f) s ih = refl
        on (ok w') s ih = ih w' (same-closed k w.state w'.state s h)

        at : (t : Bool) → assigns_to k p ≡ t → ((w : Work) → is_closed k w.state ≡ true → assign_all d place (drop_rule k r) w ≡ assign_all d place r w)
            → assign_all d place (pick t (drop_rule k r) (p ∷ drop_rule k r)) w ≡ (assign_pair d place p w >>= λ w'. assign_all d place r w')
        at true e ih = ih w h ∙ sym (ap (λ (c : Checked Refusal Work). c >>= λ w'. assign_all d place r w') (drop_skipped k d place p w e h))
        at false e ih = on (assign_pair d place p w) (pair_stays k d place p w h) ih

    -- the same devices are tried
    pub drop-tried : (r : Rule) (s : State) → tried d (drop_rule k r) s ≡ tried d r s
    unfolding tried
    drop-tried r s =
        ap₂ (λ (t : Bool) (o : Option ℕ). elim t as (λ _. ℕ) [ true ↦ place_or (length (chain d)) o | false ↦ 0 ]) (ap₂ ◌&&◌ (drop-holds s r) (drop_parents r)) (drop-nearest 1 (chain d) r)

    -- the same results are judged
    drop_results : (s : State) (r : Rule) → results_hold s (drop_rule k r) ≡ results_hold s r
    unfolding results_hold result_holds
    drop_results s r = reject-all-same (assigns_to k) (λ p. result_holds s p) (λ p h. rw (ap (λ (a : Key). same_key a RESULT) (drop_key k p h) ∙ no_result k, result_holds)) r

    module _ (a : Sheet) where
      -- and the same programs are asked
      not-asked : (place : ℕ) (p : Pair) (s : State) → assigns_to k p ≡ true → ask_pair a d place p s ≡ ok (went s true)
      unfolding ask_pair
      not-asked place p s h = rw (ap (λ (a : Key). same_key a PROGRAM) (drop_key k p h) ∙ no_program k, ask_pair)

      drop-asks : (place : ℕ) (r : Rule) (s : State) → ask_all a d place (drop_rule k r) s ≡ ask_all a d place r s
      unfolding ask_all
      drop-asks place [] s = refl
      drop-asks place (p ∷ r) s = at (assigns_to k p) refl (drop-asks place r)
        where
          on : (c : Checked Refusal (Stepped State)) → ((s : State) → ask_all a d place (drop_rule k r) s ≡ ask_all a d place r s)
              → (c >>= λ x. asked_then x (λ s'. ask_all a d place (drop_rule k r) s')) ≡ (c >>= λ x. asked_then x (λ s'. ask_all a d place r s'))
          on (refused f) ih = refl
          on (ok (went s' false)) ih = refl
          on (ok (went s' true)) ih = ih s'

          at : (t : Bool) → assigns_to k p ≡ t → ((s : State) → ask_all a d place (drop_rule k r) s ≡ ask_all a d place r s)
              → ask_all a d place (pick t (drop_rule k r) (p ∷ drop_rule k r)) s ≡ (ask_pair a d place p s >>= λ x. asked_then x (λ s'. ask_all a d place r s'))
          at true e ih = ih s ∙ sym (ap (λ (c : Checked Refusal (Stepped State)). c >>= λ x. asked_then x (λ s'. ask_all a d place r s')) (not-asked place p s e))
          at false e ih = on (ask_pair a d place p s) ih

      drop-finished : (place : ℕ) (r : Rule) (s : State) → is_closed k s ≡ true → finished d place (drop_rule k r) s ≡ finished d place r s
      unfolding finished
      drop-finished place r s h =
          ap₂ (λ (t : Bool) (c : Checked Refusal Work). elim t as (λ _. Checked Refusal (Stepped State)) [ true ↦ ended c | false ↦ ok (went s false) ]) (drop_results s r) (drop_all place r (begun s) h)

      step_at_lem : (o : Option ℕ) (r : Rule) (s : State) → is_closed k s ≡ true → step_at o a d (drop_rule k r) s ≡ step_at o a d r s
      unfolding step_at
      step_at_lem None r s h = refl
      step_at_lem (Some place) r s h =
          ap (λ (c : Checked Refusal (Stepped State)). c >>= λ x. asked_then x (finished d place (drop_rule k r))) (drop-asks place r s)
          ∙ on (ask_all a d place r s) (asks_stay k d a place r s h)
        where
          on : (c : Checked Refusal (Stepped State)) → Holds (StepStays k d s) c
              → (c >>= λ x. asked_then x (finished d place (drop_rule k r))) ≡ (c >>= λ x. asked_then x (finished d place r))
          on (refused f) i = refl
          on (ok (went s' false)) i = refl
          on (ok (went s' true)) i = drop-finished place r s' (same-closed k s s' i h)

      pub drop-step : (r : Rule) (s : State) → is_closed k s ≡ true → step a d (drop_rule k r) s ≡ step a d r s
      unfolding step
      drop-step r s h = ap (λ (o : Option ℕ). step_at o a d (drop_rule k r) s) (drop-matched s r) ∙ step_at_lem (matched d s r) r s h
