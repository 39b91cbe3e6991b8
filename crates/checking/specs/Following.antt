-- The search along the chain, as the code goes: each record against those before it.
use Rattle.std.specs.Prelude.{Option, Some, None, is_some, ℕ, ◌+◌, ◌≡◌, Bool, drop}
use Rattle.std.proofs.Common.{arith, ◌∙◌, length-drop, length-take-le}
use Rattle.std.proofs.Math.Path.{refl, sym, ap}
use Rattle.std.proofs.Math.Bool.{true, false}
use mathlib.Core.List.{List, [], ◌∷◌}
use Rattle.std.proofs.Math.ListN.{length}
use Rattle.spec.specs.declared.Ending.{Ending}
use Rattle.spec.specs.declared.Fault.{Fault}
use Rattle.spec.specs.Step.{Image}
use Rattle.spec.specs.Record.{Entry}
use Rattle.spec.specs.Reading.{marked}
use Rattle.spec.specs.Fault.{mark_wrong, record_fault, chain_fault}
use Rattle.laws.specs.Tests.{wrong}
use Rattle.chain.specs.declared.Cursor.{Cursor}
use Rattle.chain.specs.declared.Spot.{Spot}
use Rattle.chain.specs.declared.Item.{Item}
use Rattle.chain.specs.Cursor.{advance}
use Rattle.chain.specs.Rest.{Run, rest, entry_of}
use Rattle.chain.specs.Fold.{Passes, NotRecord, rest_done}
use Rattle.chain.specs.Prefix.{Gone, front, front_and, gone_more, front_more}

-- ---- one record

module _ (all bs : List Entry) (e : Entry) (k : ℕ) (l : length bs ≡ k) where
  pub mark_first : k ≡ 0 → false ≡ mark_wrong all bs e
  unfolding mark_wrong
  mark_first z = go bs l where
    go : (bs : List Entry) → length bs ≡ k → false ≡ mark_wrong all bs e
    go [] q = refl
    go (x ∷ bs) q = absurd (omega (arith, q, z))

  pub mark_further : (b : Bool) → (k ≡ 0 → ⊥) → (k ≡ 1 → ⊥) → b ≡ marked e → b ≡ mark_wrong all bs e
  unfolding mark_wrong
  mark_further b y z h = go bs l where
    go : (bs : List Entry) → length bs ≡ k → b ≡ mark_wrong all bs e
    go [] q = absurd (y (sym q))
    go (x ∷ []) q = absurd (z (sym q))
    go (x ∷ (w ∷ bs)) q = h

-- ---- the chain

-- at c, behind k records, the search for the rest is the search for all
pub record Going (image : Image) (start : Cursor) (x : Ending) (all : List Entry) (c : Cursor) (k : ℕ) : Type 0 where
  pub gone : Gone image start c k
  pub same : chain_fault x all [] (rest image start).entries ≡ chain_fault x all (front image start k) (rest image c).entries

module _ (image : Image) (start : Cursor) (x : Ending) (all : List Entry) where
  module _ {c : Cursor} {k : ℕ} (w : Going image start x all c k) where
    pub going_end : (r : Item) → r ≡ advance image c → NotRecord r → None ≡ chain_fault x all [] (rest image start).entries
    unfolding chain_fault
    going_end r q z =
        sym (w.same ∙ ap (λ (es : List Entry). chain_fault x all (front image start k) es)
        (ap (λ (y : Run). y.entries) (rest_done image c r q z)))

    module _ {e : Spot} {next : Cursor} (t : Passes image c e next) where
      here : chain_fault x all [] (rest image start).entries
          ≡ chain_fault x all (front image start k) (entry_of image e ∷ (rest image next).entries)
      here = w.same ∙ ap (λ (y : Run). chain_fault x all (front image start k) y.entries) t.split

      pub front_length : length (front image start k) ≡ k
      front_length =
          length-take-le k (rest image start).entries
          (let d : length (drop k (rest image start).entries) ≡ length (entry_of image e ∷ (rest image next).entries) =
          ap length (w.gone.left_over ∙ ap (λ (y : Run). y.entries) t.split) in
          let m = length-drop k (rest image start).entries in omega (arith, d, m))

      pub going_stop : (f : Option Fault) → f ≡ record_fault x all (front image start k) (entry_of image e) → is_some f ≡ true
          → f ≡ chain_fault x all [] (rest image start).entries
      unfolding chain_fault
      going_stop None q z = wrong z
      going_stop (Some f) q z = sym (here ∙ rw (chain_fault, ← q))

      pub going_on : (f : Option Fault) → f ≡ record_fault x all (front image start k) (entry_of image e) → is_some f ≡ false
          → Going image start x all next (k + 1)
      unfolding chain_fault
      going_on (Some f) q n = wrong (sym n)
      going_on None q n =
          let r : record_fault x all (front image start k) (entry_of image e) ≡ None = sym q in
          let s : chain_fault x all (front image start k) (entry_of image e ∷ (rest image next).entries)
          ≡ chain_fault x all (front_and image start k e) (rest image next).entries = rw (chain_fault, r) in
          record {
            gone = gone_more w.gone t;
            same =
                here ∙ s
                ∙ ap (λ (bs : List Entry). chain_fault x all bs (rest image next).entries) (sym (front_more w.gone t));
          }
