-- Repair 4, from the first reading: the records that repair 2 leaves, one after another.
use Rattle.std.specs.Prelude.{◌≡◌, refl, Bool, true, false, List, [], ◌∷◌, ◌++◌}
use Rattle.std.proofs.Common.{ap, ◌∙◌}
use Rattle.spec.specs.Step.{Image}
use Rattle.spec.specs.Basics.{keep}
use Rattle.spec.specs.Record.{Entry}
use Rattle.spec.specs.Files.{superseded}
use Rattle.laws.specs.Settled.{second_marked}
use Rattle.planning.specs.Told.{later, behind}
use Rattle.chain.specs.declared.Cursor.{Cursor}
use Rattle.chain.specs.declared.Spot.{Spot}
use Rattle.chain.specs.declared.Item.{Item}
use Rattle.chain.specs.Cursor.{advance}
use Rattle.chain.specs.Rest.{Run, entry_of, rest}
use Rattle.chain.specs.Fold.{NotRecord, rest_done, Passes}
use Rattle.recovery.specs.Drop.{dropped}

abbrev pub without_first : Bool → List Entry → List Entry
without_first true es = later es
without_first false es = es

pub behind_is : (es : List Entry) {t : Bool} → t ≡ second_marked es → without_first t es ≡ behind es
unfolding behind
behind_is es e = ap (λ (u : Bool). without_first u es) e ∙ go _ refl where
  go : (u : Bool) → second_marked es ≡ u → without_first (second_marked es) es ≡ behind es
  go true q = rw (behind, q)
  go false q = rw (behind, q)

-- ---- the chain, record by record

module _ (image : Image) (c : Cursor) where
  pub entries_on : (e : Spot) (next : Cursor) → Passes image c e next
      → (rest image c).entries ≡ entry_of image e ∷ (rest image next).entries
  entries_on e next p = ap (λ (r : Run). r.entries) p.split

  pub entries_end : (r : Item) → r ≡ advance image c → NotRecord r → (rest image c).entries ≡ []
  entries_end r e z = ap (λ (x : Run). x.entries) (rest_done image c r e z)

drop_first : (all : List Entry) (e : Entry) (es : List Entry) → dropped all (e ∷ es) ≡ dropped all (e ∷ []) ++ dropped all es
drop_first all e es = go _ refl where
  go : (t : Bool) → superseded all e ≡ t → dropped all (e ∷ es) ≡ dropped all (e ∷ []) ++ dropped all es
  go true q = rw (keep, q)
  go false q = rw (keep, q)

pub drops_on : (all : List Entry) (e : Entry) {es fs : List Entry} → es ≡ e ∷ fs → dropped all es ≡ dropped all (e ∷ []) ++ dropped all fs
drops_on all e {es} {fs} q = ap (dropped all) q ∙ drop_first all e fs

pub drops_end : (all : List Entry) {es : List Entry} → es ≡ [] → dropped all es ≡ []
drops_end all q = ap (dropped all) q
