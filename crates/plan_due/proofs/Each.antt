-- Devices that differ, and when a plan is due, device by device.
-- Assumes nothing.
use Prim.Native.Nat.{ℕ, ◌-◌}
use mathlib.Core.Path.{◌≡◌, refl, sym, ap, ap₂, ◌∙◌}
use mathlib.Core.Bool.{Bool, true, false, not, ◌&&◌, ◌||◌}
use mathlib.Core.List.{List, ◌∷◌, map}
use Rattle.std.specs.Prelude.{Some}
use native.Mathlib.Omega.{arith}
use lib.ListN.{length}
use Rattle.lists.specs.Lists.{all}
use Rattle.lists.specs.Bytes.{same_bytes, among, distinct}
use Rattle.lists.proofs.Tests.{and-false}
use Rattle.device.specs.Device as D
use Rattle.device_lookup.specs.Lookup.{OfDevice}
use Rattle.set_rows.specs.Places.{bytes_in}
use Rattle.plan.specs.Plan.{Naming, path_of, link_of, plan_naming, due}
use Rattle.plan_rows.specs.declared.WishPlace.{WishPlace}
use Rattle.plan_rows.specs.Namings.{namings_in, Standing, Whole}
use Rattle.plan_rows.proofs.Walk.{Walking, Here, standing-one}
use Rattle.plan_due.specs.Due.{planned, differs, apart, Stands}

-- ---- one beside others

both_not : (a b c d : Bool) → (not (a || c) && not (b || d)) ≡ ((not a && not b) && (not c && not d))
both_not true b c d = refl
both_not false true c d = and-false (not c)
both_not false false c d = refl

module _ (set : List ℕ) (p n : ℕ) (path link : List ℕ) where
  -- those that are left decide
  abbrev pub Apart : List Naming → Type 0
  Apart ms = (ns : List Naming) → Standing set p ns → length ns ≡ n → apart path link ms ≡ apart path link ns

  pub apart-first : Stands set p n → (m : ℕ) → m ≡ n → Walking Apart set p m
  apart-first w m same = record {
    namings = w.namings;
    standing = w.standing;
    counted = w.counted ∙ sym same;
    so_far = λ ns v e. ap (apart path link) (standing-one set p w.namings ns w.standing v (w.counted ∙ sym e));
  }

  module _ (ms : List Naming) (w : Apart ms) (r : WishPlace) (here : Here set r ms) (dev wanted : List ℕ) (i : dev ≡ bytes_in set r.device) (j : wanted ≡ bytes_in set r.link) (b : Bool)
      (said : OfDevice dev (λ d. b ≡ differs d.event.path wanted path link)) where
    turned : (ns : List Naming) → Standing set p ns → length ns ≡ n → apart path link ns ≡ (b && apart path link here.others)
    turned ns v e =
        let m : Naming = here.naming in
        let own : b ≡ differs (path_of m) m.link path link =
        said m.device (ap D.decode (i ∙ here.device) ∙ here.sound) ∙ ap (λ (x : List ℕ). differs (path_of m) x path link) (j ∙ here.link)
        in
        sym (w ns v e)
        ∙ ap (apart path link) here.split
        ∙ both_not (same_bytes (path_of m) path) (same_bytes m.link link) (among path (map path_of here.others)) (among link (map link_of here.others))
        ∙ ap (λ (x : Bool). x && apart path link here.others) (sym own)

    pub apart-not : b ≡ false → (ns : List Naming) → Standing set p ns → length ns ≡ n → false ≡ apart path link ns
    apart-not f ns v e = sym (turned ns v e ∙ ap (λ (x : Bool). x && apart path link here.others) f)

    pub apart_next : b ≡ true → Apart here.others
    apart_next f ns v e = sym (turned ns v e ∙ ap (λ (x : Bool). x && apart path link here.others) f)

-- ---- all

due-by : (a b c d e f : Bool) → ((a && b) && ((c && d) && (e && f))) ≡ ((e && (a && c)) && (b && (d && f)))
due-by true b true d true f = refl
due-by true b false d true f = and-false b
due-by false b c d true f = refl
due-by false b c d false f = refl
due-by true b false d false f = and-false b
due-by true b true d false f = ap (λ (x : Bool). b && x) (and-false d) ∙ and-false b

due-first : (n : Naming) (ns : List Naming) → due (n ∷ ns) ≡ ((plan_naming n && apart (path_of n) n.link ns) && due ns)
due-first n ns =
    due-by (not (among (path_of n) (map path_of ns))) (distinct (map path_of ns)) (not (among n.link (map link_of ns))) (distinct (map link_of ns)) (plan_naming n) (all plan_naming ns)

module _ (set : List ℕ) where
  abbrev pub Due : List Naming → Type 0
  Due ms = due ms ≡ due (namings_in set)

  pub due-whole : (n : ℕ) → Whole set → n ≡ length (namings_in set) → Walking Due set 1 n
  due-whole n w e = record { namings = namings_in set; standing = w.standing; counted = sym e; so_far = refl }

  module _ (ms : List Naming) (w : Due ms) (r : WishPlace) (here : Here set r ms) (dev link : List ℕ) (i : dev ≡ bytes_in set r.device) (j : link ≡ bytes_in set r.link) where
    device_is : D.decode dev ≡ Some here.naming.device
    device_is = ap D.decode (i ∙ here.device) ∙ here.sound

    pub others_stand : (left : ℕ) → length ms ≡ left → Stands set r.link.end (left - 1)
    others_stand left e = record { namings = here.others; standing = here.behind; counted = omega (arith, ap length here.split, e) }

    module _ (b : Bool) (said : OfDevice dev (λ d. b ≡ planned d.event.path link)) where
      spoken : b ≡ plan_naming here.naming
      spoken = said here.naming.device device_is ∙ ap (planned (path_of here.naming)) (j ∙ here.link)

      by_both : (c : Bool) → c ≡ apart (path_of here.naming) here.naming.link here.others → due (namings_in set) ≡ ((b && c) && due here.others)
      by_both c e =
          sym w
          ∙ ap due here.split
          ∙ due-first here.naming here.others
          ∙ ap₂ (λ (x y : Bool). (x && y) && due here.others) (sym spoken) (sym e)

      pub due_unspoken : b ≡ false → false ≡ due (namings_in set)
      due_unspoken f = sym (by_both _ refl ∙ ap (λ (x : Bool). (x && apart (path_of here.naming) here.naming.link here.others) && due here.others) f)

      module _ (f : b ≡ true) (path : List ℕ) (k : OfDevice dev (λ d. path ≡ d.event.path)) (c : Bool) (left : ℕ) (long : length ms ≡ left)
          (apart-said : (ns : List Naming) → Standing set r.link.end ns → length ns ≡ left - 1 → c ≡ apart path link ns) where
        alone : c ≡ apart (path_of here.naming) here.naming.link here.others
        alone =
            apart-said here.others here.behind (omega (arith, ap length here.split, long))
            ∙ ap₂ (λ (x y : List ℕ). apart x y here.others) (k here.naming.device device_is) (j ∙ here.link)

        pub due_twice : c ≡ false → false ≡ due (namings_in set)
        due_twice e = sym (by_both c alone ∙ ap₂ (λ (x y : Bool). (x && y) && due here.others) f e)

        pub due-next : c ≡ true → Due here.others
        due-next e = sym (by_both c alone ∙ ap₂ (λ (x y : Bool). (x && y) && due here.others) f e)
