-- Running files one after the other over one record.
-- Assumes nothing.
use Prim.Native.Nat.{ℕ, ◌+◌, ◌*◌, ◌≤◌, ◌<◌}
use mathlib.Core.Path.{◌≡◌, refl, sym, ap, ap₂, ◌∙◌}
use mathlib.Core.List.{List, [], ◌∷◌}
use Rattle.std.specs.Prelude.{Some, Ok, Err}
use native.Mathlib.Omega.{arith}
use lib.ListN.{length, drop, get_or}
use Rattle.lists.specs.Checked.{Checked, refused, ok, Placed, line}
use Rattle.lists.specs.Refusal.{Refusal}
use Rattle.refusals.specs.Refusals.{refusal_of}
use Rattle.refusals.specs.declared.LineRefusal.{LineRefusal}
use Rattle.text.specs.Reading.{read_text}
use Rattle.text.specs.Running.{Halt, next, run_from}
use Rattle.rules.specs.Pair.{Rule}
use Rattle.rules.specs.Reading.{reader}
use Rattle.device.specs.Device.{Device}
use Rattle.device_lookup.specs.declared.Chain.{Chain}
use Rattle.outcome.specs.State.{State}
use Rattle.outcome_target.specs.declared.Layout.{Layout}
use Rattle.sheet.specs.Sheet.{Sheet, decode}
use Rattle.engine.specs.Operations.{engine}
use Rattle.records.specs.Records.{Denotes, Ready}
use Rattle.runner.specs.declared.Ended.{Ended}
use Rattle.files.specs.Files.{File}
use Rattle.files.specs.Operation.{FileFault, Loaded, load_all, Left, run_loaded}
use Rattle.file_order.specs.Order.{file_on, chosen}
use Rattle.run_files.specs.Running.{Ranked, FaultAt, Readable, TextRuns, AllSay}
use Rattle.run_files.proofs.Loading.{fault_in, load_split, next-file, no-file}

-- ---- the first of loaded files

module _ (a : Sheet) (d : Device) (s : State) (v w : ℕ) (f : File) (rs : List (Placed Rule)) (ls : List Loaded) where
  run_more : (h : Halt State) → run_from (engine a) d next s rs ≡ ok h
      → run_loaded a d s v w (record { file = f; rules = rs } ∷ ls) ≡ run_loaded a d h.state (v + h.visited) (w + h.tried) ls
  unfolding run_loaded
  run_more h e = rw e

  run-fault : (n : ℕ) (x : Refusal) → run_from (engine a) d next s rs ≡ refused (line n x) → run_loaded a d s v w (record { file = f; rules = rs } ∷ ls) ≡ refused (fault_in f n x)
  unfolding run_loaded
  run-fault n x e = rw e

-- ---- k files ran

pub record Going (set starts order : List ℕ) (count : ℕ) (dev : List ℕ) (places : Chain) (sheet x : List ℕ) (lay : Layout) (x' : List ℕ) (lay' : Layout) (k v w : ℕ) : Type 0 where
  pub few : k ≤ count
  pub visited : v ≤ k * 65535
  pub tried : w ≤ k * 65535
  pub length : length x' ≡ length x
  pub goes : (ls : List Loaded) → load_all (chosen set starts order count) ≡ ok ls → (a : Sheet) → decode sheet ≡ Some a → (d : Device) (s : State) → Denotes dev places x lay d s
      → (s' : State) × (ls' : List Loaded) × Denotes dev places x' lay' d s' × (load_all (drop k (chosen set starts order count)) ≡ ok ls') × (run_loaded a d s 0 0 ls ≡ run_loaded a d s' v w ls')

module _ (set starts order : List ℕ) (count : ℕ) (dev : List ℕ) (places : Chain) (sheet x : List ℕ) (lay : Layout) where
  pub going_first : Going set starts order count dev places sheet x lay x lay 0 0 0
  going_first = record { few = omega arith; visited = omega arith; tried = omega arith; length = refl; goes = λ ls r a q d s w. (s, ls, w, r, refl) }

  module _ (ranked : Ranked set starts order count) (x' : List ℕ) (lay' : Layout) (k v w : ℕ) (g : Going set starts order count dev places sheet x lay x' lay' k v w) where
    abbrev ordered : List File
    ordered = chosen set starts order count

    pub going_ready : Readable set starts order count → Ready dev places x lay → (a : Sheet) → decode sheet ≡ Some a → Ready dev places x' lay'
    going_ready (ls, r) (d, s, z) a q = let (s', _, z', _, _) = g.goes ls r a q d s z in (d, s', z')

    pub going_end : count ≤ k → (ls : List Loaded) → load_all ordered ≡ ok ls → (a : Sheet) → decode sheet ≡ Some a → (d : Device) (s : State) → Denotes dev places x lay d s
        → AllSay set starts order count dev places d x' (Ok (record { layout = lay'; visited = v; tried = w })) (run_loaded a d s 0 0 ls)
    unfolding load_all run_loaded
    going_end h ls r a q d s z =
        let (s', ls', z', r', e) = g.goes ls r a q d s z in
        let None : ok [] ≡ ok ls' = sym (ap load_all (no-file set starts order count ranked k h)) ∙ r' in
        let same : [] ≡ ls' = cc in
        (record { state = s'; visited = v; tried = w }, e ∙ ap (run_loaded a d s' v w) (sym same), z', refl, refl)

    module _ (h : k < count) (body : List ℕ) (is : body ≡ (file_on set starts (get_or order k 0)).text) (x'' : List ℕ) where
      abbrev f : File
      f = file_on set starts (get_or order k 0)

      abbrev others : List File
      others = drop (k + 1) ordered

      pub going_next : (o : Ended) → TextRuns body dev places sheet x' lay' x'' (Ok o)
          → Going set starts order count dev places sheet x lay x'' o.layout (k + 1) (v + o.visited) (w + o.tried)
      going_next o t =
          record {
            few = omega arith;
            visited = omega (arith, g.visited, t.small.0);
            tried = omega (arith, g.tried, t.small.1);
            length = t.length ∙ g.length;
            goes = λ ls r a q d s z.
                let (s', ls', z', r', e) = g.goes ls r a q d s z in
                let one = load_split f others ls' (sym (ap load_all (next-file set starts order count ranked k h)) ∙ r') in
                let (y, p, z'', m, n) = t.says one.rules (ap (read_text reader) is ∙ one.read) a q d s' z' in (
                  y.state,
                  one.others,
                  z'',
                  one.behind,
                  e ∙ ap (run_loaded a d s' v w) one.split ∙ run_more a d s' v w f one.rules one.others y p ∙ ap₂ (λ (i j : ℕ). run_loaded a d y.state (v + i) (w + j) one.others) (sym m) (sym n),
                );
          }

      pub going_fault : (o : LineRefusal) (position : ℕ) → position ≡ get_or order k 0 + 1 → TextRuns body dev places sheet x' lay' x'' (Err o)
          → (ls : List Loaded) → load_all ordered ≡ ok ls → (a : Sheet) → decode sheet ≡ Some a → (d : Device) (s : State) → Denotes dev places x lay d s
          → FaultAt set starts order count (run_loaded a d s 0 0 ls) (refusal_of o.refusal) position o.line
      going_fault o position p t ls r a q d s z =
          let (s', ls', z', r', e) = g.goes ls r a q d s z in
          let one = load_split f others ls' (sym (ap load_all (next-file set starts order count ranked k h)) ∙ r') in
          let halt = t.says one.rules (ap (read_text reader) is ∙ one.read) a q d s' z' in
          record {
            k = k;
            few = h;
            position = p;
            line = t.small;
            is = e ∙ ap (run_loaded a d s' v w) one.split ∙ run-fault a d s' v w f one.rules one.others o.line (refusal_of o.refusal) halt;
          }
