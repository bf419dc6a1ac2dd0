-- Reading the texts of files one after the other.
-- Assumes nothing.
use Prim.Native.Nat.{ℕ, ◌+◌, ◌≤◌, ◌<◌}
use mathlib.Core.Path.{◌≡◌, refl, sym, ap, ◌∙◌, subst}
use mathlib.Core.List.{List, [], ◌∷◌}
use Rattle.std.specs.Prelude.{Some}
use native.Mathlib.Omega.{arith}
use lib.ListN.{length, drop, get_or}
use Rattle.lists.specs.Checked.{Checked, refused, ok, Placed, line}
use Rattle.lists.specs.Refusal.{Refusal}
use Rattle.text.specs.Reading.{read_text}
use Rattle.rules.specs.Pair.{Rule}
use Rattle.rules.specs.Reading.{reader}
use Rattle.files.specs.Files.{File}
use Rattle.files.specs.Operation.{FileFault, Loaded, load_all}
use Rattle.file_order.specs.Order.{file_on, chosen}
use Rattle.file_order.proofs.Numbers.{mapped_next, mapped_end}
use Rattle.run_files.specs.Running.{Ranked, FaultAt, Readable}

-- ---- one text

pub one_reading : (x : List ℕ) {rs qs : List (Placed Rule)} → read_text reader x ≡ ok rs → read_text reader x ≡ ok qs → rs ≡ qs
one_reading x e f = let same = sym e ∙ f in cc

pub no_reading : (x : List ℕ) {f : Placed Refusal} {rs : List (Placed Rule)} {X : Type 0} → read_text reader x ≡ refused f → read_text reader x ≡ ok rs → X
no_reading x e f = let both = sym e ∙ f in let z : ◌≡◌ {A = ℕ} 0 1 = cc in absurd (omega arith)

-- ---- the first of files

abbrev pub fault_in : File → ℕ → Refusal → FileFault
fault_in f n w = record { why = w; line = n; file = Some f }

module _ (f : File) (fs : List File) where
  pub load-fault : (n : ℕ) (w : Refusal) → read_text reader f.text ≡ refused (line n w) → load_all (f ∷ fs) ≡ refused (fault_in f n w)
  unfolding load_all
  load-fault n w e = rw e

  pub load-later : (rs : List (Placed Rule)) (x : FileFault) → read_text reader f.text ≡ ok rs → load_all fs ≡ refused x → load_all (f ∷ fs) ≡ refused x
  unfolding load_all
  load-later rs x e g = rw (e, g)

  pub load-more : (rs : List (Placed Rule)) (ls : List Loaded) → read_text reader f.text ≡ ok rs → load_all fs ≡ ok ls
      → load_all (f ∷ fs) ≡ ok (record { file = f; rules = rs } ∷ ls)
  unfolding load_all
  load-more rs ls e g = rw (e, g)

  -- all were read, so the first was
  pub record First (ls : List Loaded) : Type 0 where
    pub rules : List (Placed Rule)
    pub others : List Loaded
    pub read : read_text reader f.text ≡ ok rules
    pub behind : load_all fs ≡ ok others
    pub split : ls ≡ record { file = f; rules = rules } ∷ others

  pub load_split : (ls : List Loaded) → load_all (f ∷ fs) ≡ ok ls → First ls
  load_split ls e = at (read_text reader f.text) refl (load_all fs) refl
    where
      never : {x : FileFault} → refused x ≡ ok ls → First ls
      never q = let z : ◌≡◌ {A = ℕ} 0 1 = cc in absurd (omega arith)

      at : (c : Checked (Placed Refusal) (List (Placed Rule))) → read_text reader f.text ≡ c → (b : Checked FileFault (List Loaded)) → load_all fs ≡ b → First ls
      at (refused (line n w)) p b q = never (sym (load-fault n w p) ∙ e)
      at (ok rs) p (refused x) q = never (sym (load-later rs x p q) ∙ e)
      at (ok rs) p (ok others) q =
          let both : ok (record { file = f; rules = rs } ∷ others) ≡ ok ls = sym (load-more rs others p q) ∙ e in
          let same : ls ≡ record { file = f; rules = rs } ∷ others = cc in
          record { rules = rs; others = others; read = p; behind = q; split = same }

-- ---- the files in their order

module _ (set starts order : List ℕ) (count : ℕ) (w : Ranked set starts order count) where
  abbrev ordered : List File
  ordered = chosen set starts order count

  module _ (k : ℕ) where
    abbrev here : File
    here = file_on set starts (get_or order k 0)

    pub next-file : k < count → drop k ordered ≡ here ∷ drop (k + 1) ordered
    next-file h = mapped_next (file_on set starts) order count w.kept.room k h

    pub no-file : count ≤ k → drop k ordered ≡ []
    no-file h = mapped_end (file_on set starts) order count w.kept.room k h

-- those from place k on decide
pub record Reading (set starts order : List ℕ) (count k : ℕ) : Type 0 where
  pub few : k ≤ count
  pub bad : (x : FileFault) → load_all (drop k (chosen set starts order count)) ≡ refused x → load_all (chosen set starts order count) ≡ refused x
  pub good : (ls : List Loaded) → load_all (drop k (chosen set starts order count)) ≡ ok ls → Readable set starts order count

pub reading_first : (set starts order : List ℕ) (count : ℕ) → Reading set starts order count 0
reading_first set starts order count = record { few = omega arith; bad = λ x e. e; good = λ ls e. (ls, e) }

module _ (set starts order : List ℕ) (count : ℕ) (w : Ranked set starts order count) (k : ℕ) (g : Reading set starts order count k) where
  module _ (h : k < count) where
    pub reading_next : (rs : List (Placed Rule)) → read_text reader (file_on set starts (get_or order k 0)).text ≡ ok rs → Reading set starts order count (k + 1)
    reading_next rs e =
        let split = next-file set starts order count w k h in
        let f = file_on set starts (get_or order k 0) in
        let others = drop (k + 1) (chosen set starts order count) in
        record {
          few = omega arith;
          bad = λ x q. g.bad x (ap load_all split ∙ load-later f others rs x e q);
          good = λ ls q. g.good (record { file = f; rules = rs } ∷ ls) (ap load_all split ∙ load-more f others rs ls e q);
        }

    pub reading_fault : (position n : ℕ) (why : Refusal) → position ≡ get_or order k 0 + 1 → n < 65536 → read_text reader (file_on set starts (get_or order k 0)).text ≡ refused (line n why)
        → FaultAt set starts order count (load_all (chosen set starts order count)) why position n
    reading_fault position n why p small e =
        let split = next-file set starts order count w k h in
        let f = file_on set starts (get_or order k 0) in
        record {
          k = k;
          few = h;
          position = p;
          line = small;
          is = g.bad (fault_in f n why) (ap load_all split ∙ load-fault f (drop (k + 1) (chosen set starts order count)) n why e);
        }

  pub reading_all : count ≤ k → Readable set starts order count
  unfolding load_all
  reading_all h = g.good [] (ap load_all (no-file set starts order count w k h))
