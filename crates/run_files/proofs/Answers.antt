-- What a set of files gives back in each case.
-- Assumes nothing.
use Prim.Native.Nat.{ℕ, ◌+◌, ◌-◌, ◌≤◌, ◌<◌}
use mathlib.Core.Path.{◌≡◌, refl, sym, ap, ap₂, ◌∙◌, subst}
use mathlib.Core.Bool.{true, false}
use mathlib.Core.List.{List}
use Rattle.std.specs.Prelude.{Option, None, Some}
use native.Mathlib.Omega.{arith}
use borrow.Author.Tests.{le-leb, lt-leb}
use lib.ListN.{length, get_or}
use Rattle.lists.specs.Lists.{is_some}
use Rattle.lists.proofs.Lists.{is_none}
use Rattle.lists.specs.Checked.{Checked, refused, ok}
use Rattle.lists.specs.Refusal.{Refusal, target_short, set_bad, file_twice, device_bad, outcome_bad, sheet_bad}
use Rattle.lists.specs.Sizes.{fullest_outcome}
use Rattle.device.specs.Device as D
use Rattle.device.specs.Device.{Device, chain}
use Rattle.device_lookup.specs.Lookup.{Chained}
use Rattle.device_lookup.specs.declared.Chain.{Chain}
use Rattle.outcome.specs.State as O
use Rattle.outcome.specs.State.{State, encode}
use Rattle.outcome_check.proofs.Answers.{faulty-state}
use Rattle.outcome_check.specs.Check.{checked_of}
use Rattle.outcome_target.specs.Held as target
use Rattle.outcome_target.specs.declared.Layout.{Layout}
use Rattle.sheet.specs.Sheet as Sheets
use Rattle.sheet.specs.Sheet.{Sheet}
use Rattle.engine.specs.Operations.{decode_for}
use Rattle.records.specs.Records.{Denotes}
use Rattle.run.specs.Running.{Held}
use Rattle.run.proofs.Laws.{used_is}
use Rattle.sets.specs.Answer.{of_set, Answer, refusal, acceptance}
use Rattle.files.specs.Files.{File, decode_files, doubled, winners}
use Rattle.files.specs.Operation.{FileFault, of_none, Loaded, load_all, Left, run_loaded, run_files, files_answer, files}
use Rattle.file_rows.specs.Places.{files_at}
use Rattle.file_order.specs.Order.{file_on, chosen}
use Rattle.file_order.proofs.Numbers.{kept_at}
use Rattle.set_answers.specs.Answers.{answered, Accepts}
use Rattle.set_answers.specs.declared.Given.{Given}
use Rattle.run_files.specs.Running.{Ranked, FaultAt, Readable, Winning}
use Rattle.run_files.proofs.Places.{position_is}

-- ---- the target

-- a record was loaded
pub loaded : (dev rec : List ℕ) (places : Chain) (lay : Layout) (d : Device) (s : State) → Held dev rec places lay d s → (x : List ℕ) → target.Loaded rec x → fullest_outcome ≤ length x
    → Denotes dev places x lay d s
loaded dev rec places lay d s h x l m = record {
  device = h.device;
  chained = h.chained;
  held = subst (λ (y : Layout). target.Held (length (chain d)) x y s) (sym h.layout) (l (length (chain d)) s h.outcome m);
}

-- it holds a record
pub holds : (room n : ℕ) (l : List ℕ) (lay : Layout) (v w : ℕ) (left : Left) → target.Held n l lay left.state → v ≡ left.visited → w ≡ left.tried → length l ≡ room
    → (g : Given) → Accepts g v w lay.end 0 → (x : Answer) → x ≡ acceptance room left.visited left.tried 0 (encode left.state) → answered g l ≡ x
holds room n l lay v w left h i j m g k x q =
    ap (answered g) h.bytes
    ∙ k (length l) (encode left.state) (used_is n l lay left.state h)
    ∙ ap (λ (y : ℕ). acceptance y v w 0 (encode left.state)) m
    ∙ ap₂ (λ (y z : ℕ). acceptance room y z 0 (encode left.state)) i j
    ∙ sym q

-- ---- the set

module _ (set dev out sheet : List ℕ) (room : ℕ) where
  pub gives-short : room < fullest_outcome → files set dev out sheet room ≡ refusal room (of_set target_short)
  unfolding files
  gives-short h = rw (lt-leb fullest_outcome room h, files)

  module _ (h : fullest_outcome ≤ room) where
    pub gives_none : decode_files set ≡ None → files set dev out sheet room ≡ refusal room (of_set set_bad)
    unfolding files
    gives_none e = rw (le-leb fullest_outcome room h, files) (rw e)

    gives : (fs : List File) → decode_files set ≡ Some fs → (c : Checked FileFault Left) → run_files fs dev out sheet ≡ c → files set dev out sheet room ≡ files_answer room fs c
    unfolding files
    gives fs e c r = rw (le-leb fullest_outcome room h, files) (rw (e, r))

    twice : (fs : List File) → doubled fs ≡ true → run_files fs dev out sheet ≡ refused (of_none file_twice)
    unfolding run_files
    twice fs t = rw t

    pub gives-twice : (fs : List File) → decode_files set ≡ Some fs → doubled fs ≡ true → files set dev out sheet room ≡ refusal room (of_set file_twice)
    gives-twice fs e t = gives fs e (refused (of_none file_twice)) (twice fs t)

-- ---- the files that count

module _ (set starts : List ℕ) (n : ℕ) (order : List ℕ) (count : ℕ) (w : Winning set starts n order count) where
  abbrev all : List File
  all = files_at set starts n

  pub ranked : Ranked set starts order count
  ranked = record { files = n; lies = record { room = w.room; stand = w.files.stand }; kept = w.winners.kept; few = w.files.few; short = omega (arith, w.winners.few, w.files.few) }

  loads : (c : Checked FileFault (List Loaded)) → load_all (chosen set starts order count) ≡ c → load_all (winners all) ≡ c
  loads c e = ap load_all (sym w.winners.files) ∙ e

  module _ (dev out sheet : List ℕ) (room : ℕ) (h : fullest_outcome ≤ room) where
    -- a refusal of no file
    gives_whole : (f : Refusal) → run_files all dev out sheet ≡ refused (of_none f) → files set dev out sheet room ≡ refusal room (of_set f)
    gives_whole f r = gives set dev out sheet room h all w.files.files (refused (of_none f)) r

    -- of a file
    gives-fault : (c : Checked FileFault Left) → run_files all dev out sheet ≡ c → (why : Refusal) (p l : ℕ) → FaultAt set starts order count c why p l
        → files set dev out sheet room ≡ refusal room (record { why = why; position = p; line = l })
    gives-fault c r why p l f =
        let i = get_or order f.k 0 in
        let at = position_is set starts n i w.room w.once (kept_at n order count f.k w.winners.kept f.few) in
        gives set dev out sheet room h all w.files.files _ (r ∙ f.is) ∙ ap (λ (x : ℕ). refusal room (record { why = why; position = x; line = l })) (at ∙ sym f.position)

    text-refused : (x : FileFault) → load_all (winners all) ≡ refused x → run_files all dev out sheet ≡ refused x
    unfolding run_files
    text-refused x e = rw (w.once, e)

    pub gives-text : (why : Refusal) (p l : ℕ) → FaultAt set starts order count (load_all (chosen set starts order count)) why p l
        → files set dev out sheet room ≡ refusal room (record { why = why; position = p; line = l })
    gives-text why p l f =
        let x : FileFault = record { why = why; line = l; file = Some (file_on set starts (get_or order f.k 0)) } in
        gives-fault (refused x) (text-refused x (loads (refused x) f.is)) why p l (record { k = f.k; few = f.few; position = f.position; line = f.line; is = refl })

    module _ (ls : List Loaded) (read : load_all (chosen set starts order count) ≡ ok ls) where
      no-device : is_some (D.decode dev) ≡ false → run_files all dev out sheet ≡ refused (of_none device_bad)
      unfolding run_files
      no-device k = rw (w.once, loads (ok ls) read, is_none (D.decode dev) k)

      pub gives-device : is_some (D.decode dev) ≡ false → files set dev out sheet room ≡ refusal room (of_set device_bad)
      gives-device k = gives_whole device_bad (no-device k)

      no-outcome : (d : Device) → D.decode dev ≡ Some d → O.decode (length (chain d)) out ≡ None → run_files all dev out sheet ≡ refused (of_none outcome_bad)
      unfolding run_files decode_for
      no-outcome d e g = rw (w.once, loads (ok ls) read, e, g)

      pub gives-outcome : (d : Device) → D.decode dev ≡ Some d → (r : Chain) → Chained d r → None ≡ checked_of (O.decode r.len out)
          → files set dev out sheet room ≡ refusal room (of_set outcome_bad)
      gives-outcome d e r c k =
          let g : O.decode (length (chain d)) out ≡ None = ap (λ (m : ℕ). O.decode m out) (sym c.len) ∙ faulty-state (O.decode r.len out) k in
          gives_whole outcome_bad (no-outcome d e g)

      module _ (r : Chain) (lay : Layout) (d : Device) (s : State) (held : Held dev out r lay d s) where
        no-sheet : is_some (Sheets.decode sheet) ≡ false → run_files all dev out sheet ≡ refused (of_none sheet_bad)
        unfolding run_files decode_for
        no-sheet k = rw (w.once, loads (ok ls) read, held.device, held.outcome, is_none (Sheets.decode sheet) k)

        pub gives-sheet : is_some (Sheets.decode sheet) ≡ false → files set dev out sheet room ≡ refusal room (of_set sheet_bad)
        gives-sheet k = gives_whole sheet_bad (no-sheet k)

        module _ (a : Sheet) (e : Sheets.decode sheet ≡ Some a) where
          runs : run_files all dev out sheet ≡ run_loaded a d s 0 0 ls
          unfolding run_files decode_for
          runs = rw (w.once, loads (ok ls) read, held.device, held.outcome, e)

          pub gives-run : (left : Left) → run_loaded a d s 0 0 ls ≡ ok left
              → files set dev out sheet room ≡ acceptance room left.visited left.tried 0 (encode left.state)
          gives-run left q = gives set dev out sheet room h all w.files.files (ok left) (runs ∙ q)

          pub gives-running : (why : Refusal) (p l : ℕ) → FaultAt set starts order count (run_loaded a d s 0 0 ls) why p l
              → files set dev out sheet room ≡ refusal room (record { why = why; position = p; line = l })
          gives-running why p l f = gives-fault (run_loaded a d s 0 0 ls) runs why p l f
