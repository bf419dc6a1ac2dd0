-- A text over each device of a set.
-- Assumes nothing.
use Prim.Native.Nat.{ℕ, ◌<◌}
use mathlib.Core.Path.{◌≡◌, refl, sym, ap, ap₂, ◌∙◌, subst}
use mathlib.Core.Bool.{Bool, true, false, ◌&&◌}
use mathlib.Core.List.{List, [], ◌∷◌}
use Rattle.std.specs.Prelude.{Some, Result}
use lib.ListN.{length}
use Rattle.device.specs.Device as D
use Rattle.device_lookup.specs.Lookup.{OfDevice}
use Rattle.reader.specs.declared.Counts.{Counts}
use Rattle.refusals.specs.declared.LineRefusal.{LineRefusal}
use Rattle.run_each.specs.Runs.{ReadAs}
use Rattle.set_rows.specs.Places.{bytes_in}
use Rattle.plan.specs.Plan.{Naming, names, accepts}
use Rattle.plan_rows.specs.declared.WishPlace.{WishPlace}
use Rattle.plan_rows.specs.Namings.{namings_in, Whole}
use Rattle.plan_rows.proofs.Walk.{Walking, Here}

module _ (v r t : List ℕ) (read : Result Counts LineRefusal) (set : List ℕ) where
  -- the devices that are left decide
  abbrev pub Decide : List Naming → Type 0
  Decide ns = (text : List ℕ) → ReadAs text v r t read → accepts ns text ≡ accepts (namings_in set) text

  pub decide_first : (n : ℕ) → Whole set → n ≡ length (namings_in set) → Walking Decide set 1 n
  decide_first n w e = record { namings = namings_in set; standing = w.standing; counted = sym e; so_far = λ text f. refl }

  module _ (ns : List Naming) (w : Decide ns) (p : WishPlace) (here : Here set p ns) (dev link : List ℕ) (i : dev ≡ bytes_in set p.device) (j : link ≡ bytes_in set p.link) (b : Bool)
      (said : (text : List ℕ) → ReadAs text v r t read → OfDevice dev (λ d. b ≡ names text (record { bytes_lent = dev; device = d; link = link }))) where
    -- the first one as well
    turned : (text : List ℕ) → ReadAs text v r t read → accepts (namings_in set) text ≡ (b && accepts here.others text)
    turned text f =
        let n : Naming = here.naming in
        let same : dev ≡ n.bytes_lent = i ∙ here.device in
        let own : b ≡ names text n = said text f n.device (ap D.decode same ∙ here.sound) ∙ ap₂ (λ (x y : List ℕ). names text (record { bytes_lent = x; device = n.device; link = y })) same (j ∙ here.link) in
        sym (w text f) ∙ ap (λ (ms : List Naming). accepts ms text) here.split ∙ ap (λ (x : Bool). x && accepts here.others text) (sym own)

    pub decide_not : b ≡ false → (text : List ℕ) → ReadAs text v r t read → false ≡ accepts (namings_in set) text
    decide_not e text f = sym (turned text f ∙ ap (λ (x : Bool). x && accepts here.others text) e)

    pub decide_next : b ≡ true → Decide here.others
    decide_next e text f = sym (turned text f ∙ ap (λ (x : Bool). x && accepts here.others text) e)
