-- The runs of records one behind the other, and what is given back of a set in each case.
-- Assumes nothing.
use Prim.Native.Nat.{ℕ, zero, suc, ◌+◌, ◌*◌, ◌-◌, ◌≤◌, ◌<◌}
use mathlib.Core.Path.{◌≡◌, refl, sym, ap, ap₂, ◌∙◌, subst}
use mathlib.Core.Bool.{true, false}
use mathlib.Core.List.{List, [], ◌∷◌, ◌++◌, map, append_assoc, append-nil}
use Rattle.std.specs.Prelude.{Some, Result, Ok, Err}
use native.Mathlib.Omega.{arith}
use borrow.Author.Tests.{le-leb, lt-leb}
use lib.ListN.{length, take, drop, get_or, replicate, length-append, length-map}
use lib.Seq.{take_at, drop-drop, drop-length, length-take-le}
use Rattle.lists.specs.Lists.{is_some, cat}
use Rattle.lists.specs.Checked.{ok}
use Rattle.lists.specs.Refusal.{target_short, set_bad}
use Rattle.lists.specs.Sizes.{most_rules, fullest_outcome}
use Rattle.lists.proofs.Lists.{is_none}
use Rattle.lists.proofs.Moves.{ap_at, length_part}
use Rattle.splice.specs.Moves.{stored, padded}
use Rattle.splice.proofs.Laws.{clear_padded, append-padded}
use Rattle.entries.specs.Parse.{got, many}
use Rattle.engine.specs.Operations.{run}
use Rattle.text.specs.Run.{Answer}
use Rattle.reader.specs.Texts.{TextIs}
use Rattle.reader.specs.declared.Counts.{Counts}
use Rattle.refusals.specs.declared.LineRefusal.{LineRefusal}
use Rattle.runner.proofs.Running.{runnable}
use Rattle.action_rows.proofs.Tables.{rules-same, runnable_same}
use Rattle.answers.specs.Answers.{answered}
use Rattle.answers.specs.declared.Given.{Given}
use Rattle.sets.specs.Lent.{most_records, Lent, one_lent, decode_lent}
use Rattle.sets.specs.Answer as sets
use Rattle.sets.specs.Answer.{Fault, of_set, refusal}
use Rattle.set_answers.specs.Answers as set-answers
use Rattle.set_answers.specs.declared.Given as set_given
use Rattle.set_rows.specs.Places.{bytes_in, lent_in, LentFrom, LentIs}
use Rattle.set_rows.specs.declared.LentPlace.{LentPlace}
use Rattle.set_rows.proofs.Walk.{set_read_lem, turn, first-got, many-length}
use Rattle.numbers.specs.Numbers.{most_numbers, numbers}
use Rattle.each.specs.Each.{run_of, each_runs, targets_of, answers_of, Each, filled, counted, each_of, each_checked, each_answer}
use Rattle.run_each.specs.Runs.{Readable, ReadAs, Noted, or_none, lents_in, Going, RunsIn, wrote}

-- ---- lists

cat_snoc : {A B : Type 0} (f : A → B) (k : B → List ℕ) (xs : List A) (x : A) → cat k (map f (xs ++ (x ∷ []))) ≡ cat k (map f xs) ++ k (f x)
cat_snoc f k [] x = append-nil (k (f x))
cat_snoc f k (y ∷ xs) x = ap (λ (l : List ℕ). k (f y) ++ l) (cat_snoc f k xs x) ∙ sym (append_assoc (k (f y)) (cat k (map f xs)) (k (f x)))

empty : {A : Type 0} (xs : List A) → length xs ≡ 0 → xs ≡ []
empty [] e = refl
empty (x ∷ xs) e = absurd (omega (arith, e))

answers-length : (text sheet : List ℕ) (ls : List Lent) → length (answers_of (each_runs text sheet ls)) ≡ length ls * most_numbers
answers-length text sheet [] = refl
answers-length text sheet (l ∷ ls) = let h = answers-length text sheet ls in omega (arith, h)

-- zeros behind what stands in front
front-padded : (x zs made : List ℕ) (m room : ℕ) → take m x ≡ made → m ≤ length x → length x ≡ room → zs ≡ replicate (length (take (length x - m) (drop m x))) 0
    → take m x ++ (zs ++ drop (length x - m) (drop m x)) ≡ padded room made
front-padded x zs made m room e h r z =
    let long : length made ≡ m = sym (ap length e) ∙ length-take-le m x h in
    let behind : length (take (length x - m) (drop m x)) ≡ room - length made = length_part x m (length x) (omega arith) ∙ omega (arith, long, r) in
    let nothing : drop (length x - m) (drop m x) ≡ [] = drop-drop (length x - m) m x ∙ ap_at (λ k. drop k x) (m + (length x - m)) (length x) (omega (arith, h)) ∙ drop-length x in
    ap₂ (λ (l k : List ℕ). l ++ (zs ++ k)) e nothing
    ∙ ap (λ (l : List ℕ). made ++ l) (append-nil zs ∙ z ∙ ap (λ (k : ℕ). replicate k 0) behind)

-- ---- a text that was read

pub readable : (x v r t l js : List ℕ) (o : Result Counts LineRefusal) → TextIs x v r t l js o → most_rules * 4 ≤ length t → most_rules ≤ length js → Readable v r t js o
readable x v r t l js (Ok c) w a b = runnable x v r t l js c w a b
readable x v r t l js (Err f) w a b = w.0

pub read_as : (x v r t l js : List ℕ) (o : Result Counts LineRefusal) → TextIs x v r t l js o → ReadAs x v r t o
read_as x v r t l js (Ok c) w = w.is
read_as x v r t l js (Err f) w = w.1

-- the table is the same one with its actions noted
pub noted_readable : (v r t t' js : List ℕ) (o : Result Counts LineRefusal) → Noted r t t' o → Readable v r t js o → Readable v r t' js o
noted_readable v r t t' js (Ok c) w h = runnable_same v r t t' c.rules w js h
noted_readable v r t t' js (Err f) w h = h

pub noted_read_as : (x v r t t' : List ℕ) (o : Result Counts LineRefusal) → Noted r t t' o → ReadAs x v r t o → ReadAs x v r t' o
noted_read_as x v r t t' (Ok c) w h = h ∙ ap ok (rules-same v r t t' c.rules w c.rules 0)
noted_read_as x v r t t' (Err f) w h = h

-- ---- the runs so far

-- i records of n are done, the next stands at p
pub record Turning (v r t : List ℕ) (read : Result Counts LineRefusal) (set sheet : List ℕ) (n : ℕ) (targets answers : List ℕ) (p i : ℕ) : Type 0 where
  pub done : List Lent
  pub left : List Lent
  pub all : lents_in set ≡ done ++ left
  pub count : length done ≡ i
  pub upto : i ≤ n
  pub within : p ≤ length set
  pub standing : many one_lent (n - i) (drop p set) ≡ got left []
  pub targets_are : (text : List ℕ) → ReadAs text v r t read → take (i * fullest_outcome) targets ≡ targets_of (each_runs text sheet done)
  pub answers_are : (text : List ℕ) → ReadAs text v r t read → answers ≡ padded (length answers) (answers_of (each_runs text sheet done))

module _ (v r t : List ℕ) (read : Result Counts LineRefusal) (set sheet : List ℕ) (n : ℕ) (x y : List ℕ) where
  pub turning_first : Going set n x y → Turning v r t read set sheet n x y 1 0
  turning_first g =
      record {
        done = [];
        left = lents_in set;
        all = refl;
        count = refl;
        upto = omega arith;
        within = g.some;
        standing = ap_at (λ k. many one_lent k (drop 1 set)) (n - 0) n (omega arith) ∙ g.standing;
        targets_are = λ text e. refl;
        answers_are = λ text e. g.clear ∙ clear_padded (length y);
      }

  module _ (p i : ℕ) (w : Turning v r t read set sheet n x y p i) where
    pub turning_from : i < n → LentFrom set p
    turning_from h =
        let (l, z, e) = first-got one_lent (n - i) (drop p set) w.left [] (omega arith) w.standing in
        record { within = w.within; lent = l; behind = z; read = e }

    module _ (h : i < n) (room : n * fullest_outcome ≤ length x) (place : LentPlace) (is : LentIs set p place) (g : Given) (dev out made : List ℕ) (m : ℕ) (d : dev ≡ bytes_in set place.device) (o : out ≡ bytes_in set place.outcome) (size : m ≡ fullest_outcome) (long : length made ≡ m)
        (gave : (text : List ℕ) → ReadAs text v r t read → answered g made ≡ run text dev out sheet m) where
      abbrev this : Lent
      this = lent_in set place

      gave-this : (text : List ℕ) → ReadAs text v r t read → answered g made ≡ run_of text sheet this
      gave-this text e = gave text e ∙ ap (λ (k : ℕ). run text dev out sheet k) size ∙ ap₂ (λ (a b : List ℕ). run text a b sheet fullest_outcome) d o

      pub turning_next : (rest y' : List ℕ) → y' ≡ stored y (i * most_numbers) (numbers (answered g [])) → length y' ≡ length y
          → Turning v r t read set sheet n (take (i * fullest_outcome) x ++ (made ++ rest)) y' place.outcome.end (i + 1)
      turning_next rest y' f k =
          let next = turn one_lent (n - i) (drop p set) (drop place.outcome.end set) this w.left [] (omega arith) is.read w.standing in
          record {
            done = w.done ++ (this ∷ []);
            left = next.others;
            all = w.all ∙ ap (λ (l : List Lent). w.done ++ l) next.split ∙ sym (append_assoc w.done (this ∷ []) next.others);
            count = length-append w.done (this ∷ []) ∙ omega (arith, w.count);
            upto = omega arith;
            within = is.outcome.within;
            standing = ap_at (λ k. many one_lent k (drop place.outcome.end set)) (n - (i + 1)) (n - i - 1) (omega arith) ∙ next.read;
            targets_are = λ text e.
                let front : List ℕ = take (i * fullest_outcome) x in
                let lf : length front ≡ i * fullest_outcome = length-take-le (i * fullest_outcome) x (omega (arith, room, h)) in
                let l : length (front ++ made) ≡ (i + 1) * fullest_outcome = length-append front made ∙ omega (arith, lf, long, size) in
                ap (take ((i + 1) * fullest_outcome)) (sym (append_assoc front made rest))
                ∙ take_at (front ++ made) rest ((i + 1) * fullest_outcome) l
                ∙ ap₂ (λ (a b : List ℕ). a ++ b) (w.targets_are text e) (ap (λ (a : Answer). a.bytes) (gave-this text e))
                ∙ sym (cat_snoc (run_of text sheet) (λ (a : Answer). a.bytes) w.done this);
            answers_are = λ text e.
                let before : List ℕ = answers_of (each_runs text sheet w.done) in
                let lb : length before ≡ i * most_numbers = answers-length text sheet w.done ∙ ap (λ (k : ℕ). k * most_numbers) w.count in
                f
                ∙ append-padded before (numbers (answered g [])) (length y) (i * most_numbers) y (w.answers_are text e) lb
                ∙ ap₂ (λ (k : ℕ) (b : List ℕ). padded k (before ++ b)) (sym k) (ap numbers (gave-this text e))
                ∙ ap (padded (length y')) (sym (cat_snoc (run_of text sheet) numbers w.done this));
          }

    pub turning_last : n ≤ i → n * fullest_outcome ≤ length x → (zs : List ℕ) (room places : ℕ) → length x ≡ room → length y ≡ places
        → zs ≡ replicate (length (take (length x - n * fullest_outcome) (drop (n * fullest_outcome) x))) 0 → (text : List ℕ) → ReadAs text v r t read
        → RunsIn text set sheet room places (take (n * fullest_outcome) x ++ (zs ++ drop (length x - n * fullest_outcome) (drop (n * fullest_outcome) x))) y
    turning_last h room zs m k a b z text e =
        let same : i ≡ n = omega (arith, h, w.upto) in
        let None : w.left ≡ [] = empty w.left (many-length one_lent (n - i) (drop p set) w.left [] w.standing ∙ omega arith) in
        let done : w.done ≡ lents_in set = sym (w.all ∙ ap (λ (l : List Lent). w.done ++ l) None ∙ append-nil w.done) in
        record {
          targets_are = front-padded x zs _ (n * fullest_outcome) m
              (ap (λ (j : ℕ). take (j * fullest_outcome) x) (sym same) ∙ w.targets_are text e ∙ ap (λ (l : List Lent). targets_of (each_runs text sheet l)) done) room a z;
          answers_are = w.answers_are text e ∙ ap₂ (λ (j : ℕ) (l : List Lent). padded j (answers_of (each_runs text sheet l))) b done;
        }

-- ---- the set

pub lents_are : (set : List ℕ) (ls : List Lent) → decode_lent set ≡ Some ls → lents_in set ≡ ls
unfolding lents_in
lents_are set ls e = ap or_none e

pub record Known (set : List ℕ) (ls : List Lent) : Type 0 where
  pub some : 1 ≤ length set
  pub few : get_or set 0 0 ≤ most_records
  pub counted : get_or set 0 0 ≡ length ls

pub set_known : (set : List ℕ) (ls : List Lent) → decode_lent set ≡ Some ls → Known set ls
set_known set ls e =
    let b = set_read_lem one_lent 0 most_records set ls e in
    record { some = b.some; few = b.few; counted = sym (many-length one_lent (get_or set 0 0) (drop 1 set) ls [] b.read) }

pub going : (set : List ℕ) (ls : List Lent) → decode_lent set ≡ Some ls → (n : ℕ) (targets answers : List ℕ) → n ≡ get_or set 0 0
    → n * fullest_outcome ≤ length targets → n * most_numbers ≤ length answers → answers ≡ replicate (length answers) 0 → Going set n targets answers
going set ls e n targets answers c room places clear =
    let b = set_read_lem one_lent 0 most_records set ls e in
    record {
      some = b.some;
      few = omega (arith, c, b.few);
      standing = ap (λ (k : ℕ). many one_lent k (drop 1 set)) c ∙ b.read ∙ ap (λ (l : List Lent). got l []) (sym (lents_are set ls e));
      room = room;
      places = places;
      clear = clear;
    }

-- ---- the answer

pub given_counted : (g : set_given.Given) (n : ℕ) → set-answers.Accepts g 0 0 0 n → (bytes : List ℕ) → set-answers.answered g bytes ≡ counted n bytes
given_counted g n h bytes =
    ap (λ (a : sets.Answer). record { number = a.number; position = a.position; line = a.line; visited = a.visited; tried = a.tried; used = a.used; count = a.count; bytes = bytes })
    (h 0 [] refl)

abbrev pub refused_set : ℕ → ℕ → Fault → Each
refused_set room places f = record { own = refusal room f; answers = replicate places 0 }

pub wrote-refused : (g : set_given.Given) (targets answers : List ℕ) (room places : ℕ) (f : Fault) → set-answers.answered g targets ≡ refusal room f → answers ≡ replicate places 0
    → wrote g targets answers ≡ refused_set room places f
wrote-refused g targets answers room places f e z = ap₂ (λ (o : sets.Answer) (b : List ℕ). record { own = o; answers = b }) e z

module _ (text set sheet : List ℕ) (room places : ℕ) where
  pub each_bad : is_some (decode_lent set) ≡ false → each_answer text set sheet room places ≡ refused_set room places (of_set set_bad)
  unfolding each_answer each_checked
  each_bad h = rw (is_none (decode_lent set) h)

  module _ (ls : List Lent) (e : decode_lent set ≡ Some ls) where
    pub each_short : room < length ls * fullest_outcome → each_answer text set sheet room places ≡ refused_set room places (of_set target_short)
    unfolding each_answer each_checked
    each_short h = rw (e, lt-leb (length ls * fullest_outcome) room h)

    module _ (h : length ls * fullest_outcome ≤ room) where
      pub each_few : places < length ls * most_numbers → each_answer text set sheet room places ≡ refused_set room places (of_set target_short)
      unfolding each_answer each_checked
      each_few k = rw (e, le-leb (length ls * fullest_outcome) room h, lt-leb (length ls * most_numbers) places k)

      pub each_whole : length ls * most_numbers ≤ places → (g : set_given.Given) (n : ℕ) → n ≡ length ls → set-answers.Accepts g 0 0 0 n → (targets answers : List ℕ) → RunsIn text set sheet room places targets answers
          → wrote g targets answers ≡ each_answer text set sheet room places
      unfolding each_answer each_checked
      each_whole k g n c a targets answers w =
          let runs : List Answer = each_runs text sheet ls in
          let same = lents_are set ls e in
          let own : set-answers.answered g targets ≡ counted (length runs) (filled room (targets_of runs)) =
          given_counted g n a targets ∙ ap₂ counted (c ∙ sym (length-map ls (run_of text sheet))) (w.targets_are ∙ ap (λ (l : List Lent). filled room (targets_of (each_runs text sheet l))) same) in
          rw (e, le-leb (length ls * fullest_outcome) room h, le-leb (length ls * most_numbers) places k)
          (ap₂ (λ (o : sets.Answer) (b : List ℕ). record { own = o; answers = b }) own (w.answers_are ∙ ap (λ (l : List Lent). filled places (answers_of (each_runs text sheet l))) same))
