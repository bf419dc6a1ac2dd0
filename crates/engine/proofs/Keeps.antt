-- A rule that was read leaves a state that may stand in a record.
-- Assumes nothing.
use Prim.Native.Nat.{ℕ, suc, ◌+◌, ◌-◌, ◌≤◌, ◌<◌}
use mathlib.Core.Path.{◌≡◌, refl, sym, ap, subst}
use mathlib.Core.Bool.{Bool, true, false, not, ◌&&◌}
use mathlib.Core.List.{List, [], ◌∷◌, map}
use Rattle.std.specs.Prelude.{Option, None, Some}
use native.Mathlib.Omega.{arith}
use lib.ListN.{length, length-map}
use lib.Dec.{leb, eqb}
use lib.IntN.{ℤ, pos, negsuc}
use borrow.Author.Tests.{le-leb, leb-true}
use Rattle.lists.specs.Lists.{pick, is_empty, all, reject}
use Rattle.lists.specs.Bytes.{between, same_bytes, clean, ok_text}
use Rattle.lists.specs.Runs.{split_at}
use Rattle.lists.specs.Checked.{Checked, refused, ok, require, found, Holds}
use Rattle.lists.specs.Refusal.{Refusal, mode_bad, command_missing, mode_shared}
use Rattle.lists.proofs.Checked.{holds-bind, holds-seq, holds-require, holds-found}
use Rattle.lists.proofs.Tests.{and_both, both_and}
use Rattle.lists.proofs.Lists.{all_map, reject-all}
use Rattle.lists.proofs.Bytes.{split-clean}
use Rattle.bits.specs.Signed.{from_signed}
use Rattle.entries.specs.Entry.{Property, ok_prop}
use Rattle.rules.specs.Key.{Key, ACTION, DEVPATH, KERNEL, KERNELS, SUBSYSTEM, SUBSYSTEMS, DRIVER, DRIVERS, ATTR, ATTRS, ENV, SYMLINK, TAG, OWNER, GROUP, MODE, RUN, LABEL, GOTO, OPTIONS, PROGRAM, RESULT, same_key, Op, equal, unequal, assign, add, remove, final, is_match}
use Rattle.rules.specs.Pair.{Pair, Rule}
use Rattle.rules.specs.Setting.{Setting, escape_none, escape_replace, watched, unwatched, priority, setting_of}
use Rattle.device.specs.Device.{Member, Device, chain}
use Rattle.outcome.specs.Content.{ok_link, ok_name, ok_owner, ok_output, octal, ok_mode, mode_number, others_write}
use Rattle.outcome.specs.Head.{Closed}
use Rattle.outcome.specs.State.{Run, State, ModeBits, ok_run, ok_tag, Entries, Properties, Runs, Good}
use Rattle.outcome.specs.Change.{with_owner, with_group, with_mode, with_links, with_tags, with_runs, shut_links, shut_tags, shut_runs, shut_owner, shut_group, shut_mode}
use Rattle.text.specs.Engine.{Stepped, went}
use Rattle.lists.specs.Sizes.{most_chain, most_key, most_tag, most_tags, most_value, most_links, most_output, most_substituted}
use Rattle.template.specs.Template.{well_formed}
use Rattle.device.proofs.Sound.{Sound}
use Rattle.rules.proofs.Sound.{SoundFor, SoundPair, SoundRule, In32, Range, setting_range}
use Rattle.outcome.specs.Edits.{property}
use Rattle.outcome.proofs.Change.{closed_good, owner_good, group_good, mode_good, priority_good, output_good, watch_good, links_good, properties_good, tags_good, runs_good}
use Rattle.outcome.proofs.Edits.{empty_entries, add-entry, remove_entry_lem, remove-property, set-property, empty_runs, add-run}
use Rattle.engine.specs.Match.{parents_hold, nearest, has_parents, place_of, all_hold, matched}
use Rattle.engine.specs.Substitute.{substituted, within, filled}
use Rattle.engine.specs.Assign.{Escape, unset, as_is, replaced, Work, link_byte, clean_byte, cleaned, is_as_is, clean_name, clean_value, kept, closing, is_remove}
use Rattle.engine.specs.Assign.{names_in, change_links, source_of, linked, change_entry, change_tags, tagged, run_for, change_runs, queued}
use Rattle.engine.specs.Assign.{owner_in, owned, grouped, mode_in, moded, change_properties, valued, set_by, leaves, assigned, assign_pair, assign_all}
use Rattle.engine.specs.Programs.{stored, asked, ask_pair, asked_then, ask_all, results_hold}
use Rattle.engine.specs.Step.{ended, begun, finished, step_at, step}
use Rattle.sheet.specs.Sheet.{Reply, Sheet, ok_reply, reply_to}
use Rattle.sheet.proofs.RoundTrip.{reply_sizes, reply_output}
use Rattle.lists.specs.Runs.{chomp}
use Rattle.lists.proofs.Bytes.{chomp-clean, chomp-size}
use Rattle.engine.proofs.Clean.{substituted-clean}

-- ---- closing

module _ (n : ℕ) where
  pub closing_good : (o : Op) (f : Closed → Closed) (s : State) → Good n s → Good n (closing o f s)
  closing_good equal f s g = g
  closing_good unequal f s g = g
  closing_good assign f s g = g
  closing_good add f s g = g
  closing_good remove f s g = g
  closing_good final f s g = closed_good n s g (f s.closed)

-- ---- the byte rule

clean_byte-clean : (b : ℕ) → not (eqb b 0) ≡ true → not (eqb (clean_byte b) 0) ≡ true
clean_byte-clean b h = at (link_byte b)
  where
    at : (t : Bool) → not (eqb (pick t b 95) 0) ≡ true
    at true = h
    at false = refl

cleaned-clean : (x : List ℕ) → clean x ≡ true → clean (cleaned x) ≡ true
cleaned-clean x h = all_map (λ b. not (eqb b 0)) clean_byte clean_byte-clean x h

name-clean : (e : Escape) (x : List ℕ) → clean x ≡ true → clean (clean_name e x) ≡ true
name-clean unset x h = cleaned-clean x h
name-clean as_is x h = h
name-clean replaced x h = cleaned-clean x h

value_clean : (e : Escape) (x : List ℕ) → clean x ≡ true → clean (clean_value e x) ≡ true
value_clean unset x h = h
value_clean as_is x h = h
value_clean replaced x h = cleaned-clean x h

value_size : (e : Escape) (x : List ℕ) → length (clean_value e x) ≡ length x
value_size unset x = refl
value_size as_is x = refl
value_size replaced x = length-map x clean_byte

map-clean : (e : Escape) (xs : List (List ℕ)) → all clean xs ≡ true → all clean (map (clean_name e) xs) ≡ true
map-clean e [] h = refl
map-clean e (x ∷ xs) h =
    let (a, b) = and_both (clean x) (all clean xs) h in
    both_and (clean (clean_name e x)) (all clean (map (clean_name e) xs)) (name-clean e x a) (map-clean e xs b)

names-clean : (e : Escape) (t : List ℕ) → clean t ≡ true → all clean (names_in e t) ≡ true
unfolding names_in
names-clean e t h =
    map-clean e (reject (λ x. is_empty x) (split_at 32 t)) (reject-all (λ (x : List ℕ). is_empty x) clean (split_at 32 t) (split-clean 32 t h))

-- ---- modes

digit_small : (b : ℕ) → between 48 55 b ≡ true → b - 48 < 8
digit_small b h = let (p, q) = and_both (leb 48 b) (leb b 55) h in let u = leb-true 48 b p in let v = leb-true b 55 q in omega arith

mode_small : (x : List ℕ) → ok_mode x ≡ true → mode_number x < 4096
mode_small x h =
    let (a, b) = and_both (leb 1 (length x)) _ h in
    let (c, e) = and_both (leb (length x) 4) (octal x) b in
    at x (leb-true (length x) 4 c) e
  where
    one : (b : ℕ) (bs : List ℕ) → octal (b ∷ bs) ≡ true → (b - 48 < 8) × (octal bs ≡ true)
    one b bs h = let (p, q) = and_both (between 48 55 b) (octal bs) h in (digit_small b p, q)

    at : (x : List ℕ) → length x ≤ 4 → octal x ≡ true → mode_number x < 4096
    at [] l h = omega arith
    at (a ∷ []) l h = let (p, _) = one a [] h in omega arith
    at (a ∷ b ∷ []) l h = let (p, u) = one a (b ∷ []) h in let (q, _) = one b [] u in omega arith
    at (a ∷ b ∷ c ∷ []) l h = let (p, u) = one a (b ∷ c ∷ []) h in let (q, v) = one b (c ∷ []) u in let (r, _) = one c [] v in omega arith
    at (a ∷ b ∷ c ∷ d ∷ []) l h =
        let (p, u) = one a (b ∷ c ∷ d ∷ []) h in
        let (q, v) = one b (c ∷ d ∷ []) u in
        let (r, w) = one c (d ∷ []) v in
        let (s, _) = one d [] w in
        omega arith
    at (a ∷ b ∷ c ∷ d ∷ e ∷ x) l h = absurd (omega arith)

-- ---- the setting of a priority

priority_small : (z : ℤ) → In32 z → from_signed z < 4294967296
priority_small (pos n) h = omega arith
priority_small (negsuc n) h = omega arith

-- ---- lists that begin anew or not

kept_entries : (most : ℕ) (okay : List ℕ → Bool) (o : Op) (xs : List (List ℕ)) → Entries most okay xs → Entries most okay (kept o xs)
kept_entries most okay equal xs h = h
kept_entries most okay unequal xs h = h
kept_entries most okay assign xs h = empty_entries most okay
kept_entries most okay add xs h = h
kept_entries most okay remove xs h = h
kept_entries most okay final xs h = empty_entries most okay

kept-runs : (n : ℕ) (o : Op) (rs : List Run) → Runs n rs → Runs n (kept o rs)
kept-runs n equal rs h = h
kept-runs n unequal rs h = h
kept-runs n assign rs h = empty_runs n
kept-runs n add rs h = h
kept-runs n remove rs h = h
kept-runs n final rs h = empty_runs n

change_holds : (most : ℕ) (okay : List ℕ → Bool) (o : Op) (x : List ℕ) (xs : List (List ℕ)) → okay x ≡ true → Entries most okay xs → Holds (Entries most okay) (change_entry o most x xs)
unfolding change_entry
change_holds most okay o x xs h g = at (is_remove o) refl
  where
    at : (t : Bool) → is_remove o ≡ t → Holds (Entries most okay) (change_entry o most x xs)
    at true e = rw (e, change_entry) (remove_entry_lem most okay x xs g)
    at false e = rw (e, change_entry) (add-entry most okay x xs h g)

-- links, name by name
links_hold : (o : Op) (names ls : List (List ℕ)) → all clean names ≡ true → Entries most_links ok_link ls → Holds (Entries most_links ok_link) (change_links o names ls)
unfolding change_links
links_hold o [] ls h g = g
links_hold o (x ∷ xs) ls h g =
    let (a, b) = and_both (clean x) (all clean xs) h in
    at (ok_name x) refl a (λ ls' g'. links_hold o xs ls' b g')
  where
    at : (t : Bool) → ok_name x ≡ t → clean x ≡ true
        → ((ls : List (List ℕ)) → Entries most_links ok_link ls → Holds (Entries most_links ok_link) (change_links o xs ls)) → Holds (Entries most_links ok_link) (change_links o (x ∷ xs) ls)
    at true e k ih =
        rw e
        (holds-bind (Entries most_links ok_link) (Entries most_links ok_link) (change_entry o most_links x ls) (λ ls'. change_links o xs ls')
        (change_holds most_links ok_link o x ls (both_and (ok_name x) (clean x) e k) g) ih)
    at false e k ih = rw e tt

-- ---- assignments

module _ (d : Device) (dg : Sound d) where
  abbrev size : ℕ
  size = length (chain d)

  -- what a template gives has no NUL
  filled-clean : (spaceless : Bool) (place : ℕ) (s : State) (v : List ℕ) → clean v ≡ true → Good size s
      → Holds (λ (t : List ℕ). clean t ≡ true) (filled spaceless (source_of d place s) v)
  unfolding filled
  filled-clean spaceless place s v h g = at (leb (length t) most_substituted) refl
    where
      t : List ℕ
      t = substituted spaceless (source_of d place s) v

      at : (b : Bool) → leb (length (substituted spaceless (source_of d place s) v)) most_substituted ≡ b
          → Holds (λ (t : List ℕ). clean t ≡ true) (within (substituted spaceless (source_of d place s) v))
      at true e = rw (e, within) (substituted-clean (source_of d place s) dg g.properties.each (and_both (leb (length s.output) most_output) (clean s.output) g.output).1 spaceless v h)
      at false e = rw (e, within) tt

  module _ (place : ℕ) (near : place ≤ size) (p : Pair) (sp : SoundPair p) where
    linked_good : (w : Work) → Good size w.state → Holds (Good size) (linked d place p w)
    unfolding linked
    linked_good w g =
        holds-bind (λ (t : List ℕ). clean t ≡ true) (Good size) (filled (not (is_as_is w.escape)) (source_of d place w.state) p.value) _
        (filled-clean (not (is_as_is w.escape)) place w.state p.value sp.value g)
        (λ t h. holds-bind (Entries most_links ok_link) (Good size) (change_links p.op (names_in w.escape t) (kept p.op w.state.links)) _
        (links_hold p.op (names_in w.escape t) (kept p.op w.state.links) (names-clean w.escape t h)
        (kept_entries most_links ok_link p.op w.state.links g.links))
        (λ ls k. closing_good size p.op shut_links (with_links w.state ls) (links_good size w.state g ls k)))

    tags_hold : (ts : List (List ℕ)) → length p.value ≤ most_tag → Entries most_tags ok_tag ts → Holds (Entries most_tags ok_tag) (change_tags p.op p.value ts)
    unfolding change_tags
    tags_hold ts l h = at p.value refl
      where
        at : (v : List ℕ) → p.value ≡ v → Holds (Entries most_tags ok_tag) (change_tags p.op p.value ts)
        at [] e = rw (e, change_tags) h
        at (b ∷ v) e =
            let q : is_empty p.value ≡ false = ap is_empty e in
            let c : leb 1 (length p.value) ≡ true = subst (λ (x : List ℕ). leb 1 (length x) ≡ true) (sym e) (le-leb 1 (length (b ∷ v)) (omega arith)) in
            let o : ok_tag p.value ≡ true = both_and (leb 1 (length p.value)) _ c (both_and (leb (length p.value) most_tag) (clean p.value) (le-leb (length p.value) most_tag l) sp.value) in
            rw (q, change_tags) (change_holds most_tags ok_tag p.op p.value ts o h)

    tagged_good : (s : State) → length p.value ≤ most_tag → Good size s → Holds (Good size) (tagged p s)
    unfolding tagged
    tagged_good s l g =
        holds-bind (Entries most_tags ok_tag) (Good size) (change_tags p.op p.value (kept p.op s.tags)) _
        (tags_hold (kept p.op s.tags) l (kept_entries most_tags ok_tag p.op s.tags g.tags))
        (λ ts k. closing_good size p.op shut_tags (with_tags s ts) (tags_good size s g ts k))

    run_okay : (b : ℕ) (v : List ℕ) → p.value ≡ b ∷ v → well_formed p.value ≡ true → ok_run size (run_for place p) ≡ true
    run_okay b v e h =
        let few = dg.few in
        let c : leb 1 (length p.value) ≡ true = subst (λ (x : List ℕ). leb 1 (length x) ≡ true) (sym e) (le-leb 1 (length (b ∷ v)) (omega arith)) in
        let t : ok_text most_value p.value ≡ true = both_and (leb 1 (length p.value)) _ c (both_and (leb (length p.value) most_value) (clean p.value) (le-leb (length p.value) most_value sp.short) sp.value) in
        both_and (leb place most_chain) _ (le-leb place most_chain (omega arith))
        (both_and (leb place size) _ (le-leb place size near) (both_and (ok_text most_value p.value) (well_formed p.value) t h))

    runs_hold : (rs : List Run) → well_formed p.value ≡ true → Runs size rs → Holds (Runs size) (change_runs place p rs)
    unfolding change_runs
    runs_hold rs h k = at p.value refl
      where
        at : (v : List ℕ) → p.value ≡ v → Holds (Runs size) (change_runs place p rs)
        at [] e = rw (e, change_runs) k
        at (b ∷ v) e =
            let o = run_okay b v e h in
            let q : is_empty p.value ≡ false = ap is_empty e in
            rw (q, change_runs) (add-run size (run_for place p) rs o k)

    queued_good : (s : State) → well_formed p.value ≡ true → Good size s → Holds (Good size) (queued place p s)
    unfolding queued
    queued_good s h g =
        holds-bind (Runs size) (Good size) (change_runs place p (kept p.op s.runs)) _
        (runs_hold (kept p.op s.runs) h (kept-runs size p.op s.runs g.runs))
        (λ rs k. closing_good size p.op shut_runs (with_runs s rs) (runs_good size s g rs k))

    owner-holds : (t : List ℕ) → Holds (λ (x : List ℕ). ok_owner x ≡ true) (owner_in t)
    owner-holds t = at (leb 1 (length t) && ok_owner t) refl
      where
        at : (b : Bool) → leb 1 (length t) && ok_owner t ≡ b → Holds (λ (x : List ℕ). ok_owner x ≡ true) (owner_in t)
        at true e = rw (e, owner_in) (and_both (leb 1 (length t)) (ok_owner t) e).1
        at false e = rw (e, owner_in) tt

    owned_good : (s : State) → Good size s → Holds (Good size) (owned d place p s)
    unfolding owned
    owned_good s g =
        holds-bind (λ (t : List ℕ). clean t ≡ true) (Good size) (filled false (source_of d place s) p.value) _ (filled-clean false place s p.value sp.value g)
        (λ t h. holds-bind (λ (x : List ℕ). ok_owner x ≡ true) (Good size) (owner_in t) _ (owner-holds t)
        (λ x k. closing_good size p.op shut_owner (with_owner s x) (owner_good size s g x k)))

    grouped_good : (s : State) → Good size s → Holds (Good size) (grouped d place p s)
    unfolding grouped
    grouped_good s g =
        holds-bind (λ (t : List ℕ). clean t ≡ true) (Good size) (filled false (source_of d place s) p.value) _ (filled-clean false place s p.value sp.value g)
        (λ t h. holds-bind (λ (x : List ℕ). ok_owner x ≡ true) (Good size) (owner_in t) _ (owner-holds t)
        (λ x k. closing_good size p.op shut_group (with_group s x) (group_good size s g x k)))

    mode-holds : (t : List ℕ) → Holds ModeBits (mode_in t)
    mode-holds t =
        holds-seq (λ (_ : Unit {0}). ok_mode t ≡ true) ModeBits (require (ok_mode t) mode_bad) _ (holds-require (ok_mode t) mode_bad)
        (λ _ e. holds-seq (λ (_ : Unit {0}). not (others_write (mode_number t)) ≡ true) ModeBits (require (not (others_write (mode_number t))) mode_shared) _
        (holds-require (not (others_write (mode_number t))) mode_shared)
        (λ _ k. record { small = mode_small t e; kept = k }))

    moded_good : (s : State) → Good size s → Holds (Good size) (moded d place p s)
    unfolding moded
    moded_good s g =
        holds-bind (λ (t : List ℕ). clean t ≡ true) (Good size) (filled false (source_of d place s) p.value) _ (filled-clean false place s p.value sp.value g)
        (λ t h. holds-bind ModeBits (Good size) (mode_in t) _ (mode-holds t)
        (λ m k. closing_good size p.op shut_mode (with_mode s m) (mode_good size s g m k)))

    properties_hold : (e : Escape) (ps : List Property) → ok_text most_key p.argument ≡ true → Properties ps → Holds Properties (change_properties e p.argument p.value ps)
    unfolding change_properties
    properties_hold e ps h k = at (is_empty p.value) refl
      where
        okay : ok_prop (property p.argument (clean_value e p.value)) ≡ true
        okay =
            both_and (ok_text most_key p.argument) _ h
            (both_and (leb (length (clean_value e p.value)) most_value) (clean (clean_value e p.value))
            (le-leb (length (clean_value e p.value)) most_value (subst (λ (i : ℕ). i ≤ most_value) (sym (value_size e p.value)) sp.short))
            (value_clean e p.value sp.value))

        at : (t : Bool) → is_empty p.value ≡ t → Holds Properties (change_properties e p.argument p.value ps)
        at true q = rw (q, change_properties) (remove-property p.argument ps k)
        at false q = rw (q, change_properties) (set-property p.argument (clean_value e p.value) ps okay k)

    valued_good : (e : Escape) (s : State) → ok_text most_key p.argument ≡ true → Good size s → Holds (Good size) (valued e p s)
    unfolding valued
    valued_good e s h g =
        holds-bind Properties (Good size) (change_properties e p.argument p.value s.properties) _
        (properties_hold e s.properties h g.properties)
        (λ ps k. properties_good size s g ps k)

    abbrev GoodWork : Work → Type 0
    GoodWork w = Good size w.state

    leaves_good : (w : Work) (c : Checked Refusal State) → Holds (Good size) c → Holds GoodWork (leaves w c)
    leaves_good w (refused f) h = tt
    leaves_good w (ok s) h = h

    set_good : (o : Option Setting) (w : Work) → Range o → Good size w.state → Good size (set_by o w).state
    set_good None w r g = g
    set_good (Some escape_none) w r g = g
    set_good (Some escape_replace) w r g = g
    set_good (Some watched) w r g = watch_good size w.state g 1 (omega arith)
    set_good (Some unwatched) w r g = watch_good size w.state g 2 (omega arith)
    set_good (Some (priority z)) w r g = priority_good size w.state g (from_signed z) (priority_small z r)

    -- a closed key is skipped
    skipped : (shut : Bool) (w : Work) (c : Checked Refusal Work) → GoodWork w → Holds GoodWork c → Holds {R = Refusal} GoodWork (elim shut [ true ↦ ok w | false ↦ c ])
    skipped true w c g h = g
    skipped false w c g h = h

    assigned_good : (k : Key) (w : Work) → SoundFor k p → Good size w.state → Holds GoodWork (assigned k d place p w)
    unfolding assigned
    assigned_good ACTION w h g = g
    assigned_good DEVPATH w h g = g
    assigned_good KERNEL w h g = g
    assigned_good KERNELS w h g = g
    assigned_good SUBSYSTEM w h g = g
    assigned_good SUBSYSTEMS w h g = g
    assigned_good DRIVER w h g = g
    assigned_good DRIVERS w h g = g
    assigned_good ATTR w h g = g
    assigned_good ATTRS w h g = g
    assigned_good ENV w h g = leaves_good w (valued w.escape p w.state) (valued_good w.escape w.state h g)
    assigned_good SYMLINK w h g = skipped w.state.closed.links w (leaves w (linked d place p w)) g (leaves_good w (linked d place p w) (linked_good w g))
    assigned_good TAG w h g = skipped w.state.closed.tags w (leaves w (tagged p w.state)) g (leaves_good w (tagged p w.state) (tagged_good w.state h g))
    assigned_good OWNER w h g = skipped w.state.closed.owner w (leaves w (owned d place p w.state)) g (leaves_good w (owned d place p w.state) (owned_good w.state g))
    assigned_good GROUP w h g = skipped w.state.closed.group w (leaves w (grouped d place p w.state)) g (leaves_good w (grouped d place p w.state) (grouped_good w.state g))
    assigned_good MODE w h g = skipped w.state.closed.mode w (leaves w (moded d place p w.state)) g (leaves_good w (moded d place p w.state) (moded_good w.state g))
    assigned_good RUN w h g = skipped w.state.closed.runs w (leaves w (queued place p w.state)) g (leaves_good w (queued place p w.state) (queued_good w.state h g))
    assigned_good LABEL w h g = g
    assigned_good GOTO w h g = g
    assigned_good PROGRAM w h g = g
    assigned_good RESULT w h g = g
    assigned_good OPTIONS w h g = set_good (setting_of p.value) w (setting_range p.value) g

    pair_good : (w : Work) → Good size w.state → Holds GoodWork (assign_pair d place p w)
    unfolding assign_pair
    pair_good w g = at (is_match p.op) refl
      where
        at : (t : Bool) → is_match p.op ≡ t → Holds GoodWork (assign_pair d place p w)
        at true e = rw (e, assign_pair) g
        at false e = rw (e, assign_pair) (assigned_good p.key w (sp.content e) g)

  all_good : (place : ℕ) → place ≤ size → (r : Rule) → SoundRule r → (w : Work) → Good size w.state → Holds (λ (w : Work). Good size w.state) (assign_all d place r w)
  unfolding assign_all
  all_good place near [] h w g = g
  all_good place near (p ∷ ps) (h, hs) w g =
      holds-bind (λ (w : Work). Good size w.state) (λ (w : Work). Good size w.state) (assign_pair d place p w) (λ w'. assign_all d place ps w')
      (pair_good place near p h w g) (λ w' g'. all_good place near ps hs w' g')

  -- ---- the matched place is within the chain

  abbrev Near : ℕ → Option ℕ → Type 0
  Near most None = Unit {0}
  Near most (Some n) = n ≤ most

  nearest_near : (n : ℕ) (ms : List Member) (r : Rule) (most : ℕ) → n + length ms ≤ suc most → Near most (nearest n ms r)
  unfolding nearest
  nearest_near n [] r most h = tt
  nearest_near n (m ∷ ms) r most h = at (parents_hold m r) refl (nearest_near (suc n) ms r most (omega arith))
    where
      at : (t : Bool) → parents_hold m r ≡ t → Near most (nearest (suc n) ms r) → Near most (nearest n (m ∷ ms) r)
      at true e i = rw (e, nearest) (omega arith)
      at false e i = rw (e, nearest) i

  place_near : (r : Rule) → Near size (place_of d r)
  unfolding place_of
  place_near r = at (has_parents r) refl
    where
      at : (t : Bool) → has_parents r ≡ t → Near size (place_of d r)
      at true e = rw (e, place_of) (nearest_near 1 (chain d) r size (omega arith))
      at false e = rw (e, place_of) (omega arith)

  matched_near : (s : State) (r : Rule) → Near size (matched d s r)
  unfolding matched
  matched_near s r = at (all_hold d s r) refl
    where
      at : (t : Bool) → all_hold d s r ≡ t → Near size (matched d s r)
      at true e = rw (e, matched) (place_near r)
      at false e = rw (e, matched) tt

  -- ---- one rule

  abbrev WentGood : Stepped State → Type 0
  WentGood (went s held) = Good size s

  abbrev Went : Checked Refusal (Stepped State) → Type 0
  Went c = Holds WentGood c

  ended-went : (c : Checked Refusal Work) → Holds (λ (w : Work). Good size w.state) c → Went (ended c)
  ended-went (refused f) h = tt
  ended-went (ok w) h = h

  -- ---- document 02, Item 6: programs

  stored_good : (r : Reply) (s : State) → ok_reply r ≡ true → Good size s → Good size (stored r s)
  unfolding stored
  stored_good r s h g = at r.success refl
    where
      okay : ok_output (chomp r.output) ≡ true
      okay =
          let a = (reply_sizes r h).1 in
          let b = chomp-size r.output in
          both_and (leb (length (chomp r.output)) most_output) (clean (chomp r.output)) (le-leb (length (chomp r.output)) most_output (omega arith)) (chomp-clean r.output (reply_output r h))

      at : (t : Bool) → r.success ≡ t → Good size (stored r s)
      at true e = rw (e, stored) (output_good size s g (chomp r.output) okay)
      at false e = rw (e, stored) g

  reply_okay : (c : List ℕ) (a : Sheet) → all ok_reply a ≡ true → (r : Reply) → reply_to c a ≡ Some r → ok_reply r ≡ true
  unfolding reply_to
  reply_okay c [] h r e = let z : ◌≡◌ {A = ℕ} 0 1 = cc in absurd (omega arith)
  reply_okay c (q ∷ a) h r e = at (same_bytes q.command c) refl (λ f. reply_okay c a (and_both (ok_reply q) (all ok_reply a) h).1 r f)
    where
      at : (t : Bool) → same_bytes q.command c ≡ t → (reply_to c a ≡ Some r → ok_reply r ≡ true) → ok_reply r ≡ true
      at true f ih = let k : Some q ≡ Some r = rw f at e in let w : q ≡ r = cc in subst (λ (x : Reply). ok_reply x ≡ true) w (and_both (ok_reply q) (all ok_reply a) h).0
      at false f ih = let k : reply_to c a ≡ Some r = rw f at e in ih k

  module _ (a : Sheet) (sound : all ok_reply a ≡ true) where
    asked-went : (place : ℕ) (p : Pair) → SoundPair p → (s : State) → Good size s → Went (asked a d place p s)
    unfolding asked
    asked-went place p sp s g =
        holds-bind (λ (t : List ℕ). clean t ≡ true) WentGood (filled false (source_of d place s) p.value) _ (filled-clean false place s p.value sp.value g)
        (λ t _. holds-bind (λ (r : Reply). reply_to t a ≡ Some r) WentGood (found (reply_to t a) command_missing) _ (holds-found (reply_to t a) command_missing)
        (λ r e. stored_good r s (reply_okay t a sound r e) g))

    pair_went : (place : ℕ) (p : Pair) → SoundPair p → (s : State) → Good size s → Went (ask_pair a d place p s)
    unfolding ask_pair
    pair_went place p sp s g = at (same_key p.key PROGRAM) refl
      where
        at : (t : Bool) → same_key p.key PROGRAM ≡ t → Went (ask_pair a d place p s)
        at true e = rw (e, ask_pair) (asked-went place p sp s g)
        at false e = rw (e, ask_pair) g

    then-went : (x : Stepped State) (later : State → Checked Refusal (Stepped State)) → WentGood x → ((s : State) → Good size s → Went (later s)) → Went (asked_then x later)
    then-went (went s true) later g f = f s g
    then-went (went s false) later g f = g

    all-went : (place : ℕ) (r : Rule) → SoundRule r → (s : State) → Good size s → Went (ask_all a d place r s)
    unfolding ask_all
    all-went place [] h s g = g
    all-went place (p ∷ ps) (h, hs) s g =
        holds-bind WentGood WentGood (ask_pair a d place p s) (λ x. asked_then x (λ s'. ask_all a d place ps s')) (pair_went place p h s g)
        (λ x k. then-went x (λ s'. ask_all a d place ps s') k (λ s' g'. all-went place ps hs s' g'))

    finished-went : (place : ℕ) (r : Rule) → place ≤ size → SoundRule r → (s : State) → Good size s → Went (finished d place r s)
    unfolding finished
    finished-went place r near h s g = at (results_hold s r) refl
      where
        at : (t : Bool) → results_hold s r ≡ t → Went (finished d place r s)
        at true e = rw (e, finished) (ended-went (assign_all d place r (begun s)) (all_good place near r h (begun s) g))
        at false e = rw (e, finished) g

    step_at-went : (o : Option ℕ) (r : Rule) (s : State) → Near size o → SoundRule r → Good size s → Went (step_at o a d r s)
    unfolding step_at
    step_at-went None r s near h g = g
    step_at-went (Some place) r s near h g =
        holds-bind WentGood WentGood (ask_all a d place r s) (λ x. asked_then x (finished d place r)) (all-went place r h s g)
        (λ x k. then-went x (finished d place r) k (λ s' g'. finished-went place r near h s' g'))

    pub step_good : (r : Rule) (s s' : State) (held : Bool) → SoundRule r → Good size s → step a d r s ≡ ok (went s' held) → Good size s'
    unfolding step
    step_good r s s' held h g e = subst Went e (step_at-went (matched d s r) r s (matched_near s r) h g)
