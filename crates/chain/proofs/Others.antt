-- What `let .. = x else ..` leaves where x is another variant.
use mathlib.Core.Path.{◌≡◌, refl}
use Prim.Native.Nat.{ℕ}
use Rattle.spec.specs.declared.Next.{Next}
use Rattle.laws.specs.Next.{NotRecord}
use Rattle.chain.specs.declared.Cursor.{Cursor}
use Rattle.chain.specs.declared.Item.{Item}
use Rattle.chain.specs.declared.Spot.{Spot}
use Rattle.chain.specs.Fold.{NotRecord as NoStep}

pub other_next : (x : Next) → ((n d : ℕ) → x ≡ Next.Record n d → ⊥) → NotRecord x
other_next (Next.Record n d) z = z n d refl
other_next Next.Wrap z = tt
other_next Next.TornWrap z = tt
other_next Next.Clear z = tt
other_next Next.Over z = tt
other_next Next.Bad z = tt

pub other_step : (x : Item) → ((e : Spot) (c : Cursor) → x ≡ Item.Record e c → ⊥) → NoStep x
other_step (Item.Record e c) z = z e c refl
other_step (Item.End t w) z = tt
other_step (Item.TornWrap t) z = tt
other_step (Item.Broken t w) z = tt
