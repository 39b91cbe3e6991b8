-- The chain after one byte was written: what is read before that byte stays as it was.
use Prim.Native.Nat.{ℕ, ◌+◌, ◌-◌, ◌≤◌, ◌<◌}
use Rattle.std.proofs.Common.{arith, sym, ap₂, ◌∙◌, inl, inr, not-suc-le-zero, length-set, length-drop, length-take, get_or-set_other}
use Rattle.std.specs.Prelude.{◌≡◌, ◌⊎◌, Bool, true, false, length, take, drop}
use Rattle.std.proofs.Math.Path.{ap}
use Rattle.std.proofs.Math.Logic.{⊎_elim}
use mathlib.Core.List.{List}
use Rattle.std.proofs.Math.ListN.{set, get_or}
use Rattle.std.proofs.Math.Seq.{get_or-take, get_or-drop, get_or-set_same}
use Rattle.spec.specs.declared.Next.{Next}
use Rattle.spec.specs.Step.{Image}
use Rattle.spec.specs.Bytes.{is_unfinished}
use Rattle.spec.specs.Record.{size_of, rec_of, Rec, low_of, high_of, status_of, spare_of}
use Rattle.spec.specs.Next.{next}
use Rattle.spec.specs.Chain.{allowed}
use Rattle.chain.specs.declared.Cursor.{Cursor}
use Rattle.chain.specs.declared.Spot.{Spot}
use Rattle.chain.specs.declared.Item.{Item}
use Rattle.chain.specs.Cursor.{window, look, goes_on, turn, past, unfinished_at, settle, advance}
use Rattle.laws.specs.Parts.{Outside, part_window, part_set}
use Rattle.chain.specs.Fits.{look_inside}
use Rattle.chain.specs.Along.{From, here, turned, from_advance, Reached}
use Rattle.chain.specs.Rest.{entry_of}
use Rattle.reading.specs.Bridge.{rec_part}
use Rattle.recovery.specs.SameRecord.{next_kept, kind_dropped}

-- ---- cursors

-- what is left before the turn lies behind what is left after it
pub record Tidy (c : Cursor) : Type 0 where
  pub ordered : c.at ≤ c.end
  pub apart : c.room ≤ c.at

-- address a is still to be read from c on
abbrev pub Ahead : Cursor → ℕ → Type 0
Ahead c a = ((c.at ≤ a) × (a < c.end)) ⊎ (a < c.room)

pub from_tidy : {image : Image} {c d : Cursor} → From image c d → Tidy c → Tidy d
from_tidy (here e) t = t
from_tidy (turned e) t = record { ordered = omega arith; apart = omega arith }

below_room : (c : Cursor) (a : ℕ) → Ahead (turn c.room c.pending) a → a < c.room
below_room c a (inl p) = p.1
below_room c a (inr p) = absurd (not-suc-le-zero p)

from_ahead : {image : Image} {c d : Cursor} (a : ℕ) → From image c d → Ahead d a → Ahead c a
from_ahead a (here e) o = o
from_ahead {c = c} a (turned e) o = inr (below_room c a o)

module _ {image : Image} {c : Cursor} {e : Spot} {behind : Cursor} (tidy : Tidy c) (r : Reached image c e behind) where
  pub tidy_seen : Tidy r.seen
  tidy_seen = from_tidy r.from tidy

  pub tidy_next : Tidy behind
  tidy_next =
      rw r.next_is (record { ordered = omega (arith, tidy_seen.ordered, r.fits); apart = omega (arith, tidy_seen.apart) })

  module _ (a : ℕ) where
    -- what is ahead behind the record is off it, and was ahead before
    pub off_record : Ahead behind a → Outside a r.seen.at (size_of e.n e.d) × Ahead r.seen a
    off_record o = go (rw r.next_is at o)
      where
        go : Ahead (past r.seen (size_of e.n e.d) (unfinished_at image r.seen.at)) a
            → Outside a r.seen.at (size_of e.n e.d) × Ahead r.seen a
        go (inl p) = (inr p.0, inl (omega (arith, p.0), p.1))
        go (inr p) = (inl (omega (arith, tidy_seen.apart)), inr p)

    pub ahead_back : Ahead r.seen a → Ahead c a
    ahead_back o = from_ahead a r.from o

-- ---- one byte is written

module _ (s : Image) (a b : ℕ) where
  pub window_kept : (c : Cursor) → c.at ≤ c.end → Outside a c.at (c.end - c.at) → look (set s a b) c ≡ look s c
  unfolding look
  window_kept c l o =
      ap (λ (w : List ℕ). allowed c.pending (next w))
      (sym (part_window c.at c.end (set s a b) l) ∙ part_set s c.at (c.end - c.at) a b o ∙ part_window c.at c.end s l)

  pub entry_kept : (e : Spot) → Outside a e.at (size_of e.n e.d) → entry_of (set s a b) e ≡ entry_of s e
  entry_kept e o =
      let z : ℕ = size_of e.n e.d in
      ap (λ (x : Rec). record { at = e.at; it = x })
      (sym (rec_part z e.n e.d (drop e.at (set s a b)) (omega arith))
      ∙ ap (λ (l : List ℕ). rec_of l e.n e.d) (part_set s e.at z a b o)
      ∙ rec_part z e.n e.d (drop e.at s) (omega arith))

  pub unfinished_kept : (i : ℕ) → (i + 2 ≡ a → ⊥) → unfinished_at (set s a b) i ≡ unfinished_at s i
  unfinished_kept i h = ap is_unfinished (get_or-drop i (set s a b) 2 0 ∙ get_or-set_other s a (i + 2) b 0 h ∙ sym (get_or-drop i s 2 0))

  -- a byte of the window, elsewhere
  byte_kept : (c : Cursor) (i : ℕ) → c.at + i < c.end → (c.at + i ≡ a → ⊥) → get_or (window (set s a b) c) i 0 ≡ get_or (window s c) i 0
  byte_kept c i l h =
      get_or-drop c.at (take c.end (set s a b)) i 0 ∙ get_or-take c.end (set s a b) (c.at + i) 0 l
      ∙ get_or-set_other s a (c.at + i) b 0 h
      ∙ sym (get_or-drop c.at (take c.end s) i 0 ∙ get_or-take c.end s (c.at + i) 0 l)

  window_long : (c : Cursor) → length (window (set s a b) c) ≡ length (window s c)
  window_long c = simp (length-drop, length-take, length-set)

allowed_record : (pending : Bool) (x : Next) (n d : ℕ) → allowed pending x ≡ Next.Record n d → (x ≡ Next.Record n d)
    × ((y : Next) → y ≡ Next.Record n d → allowed pending y ≡ Next.Record n d)
allowed_record false x n d h = (h, λ y e. e)
allowed_record true (Next.Record m l) n d h = absurd (let z : ◌≡◌ {A = ℕ} 0 1 = cc in omega arith)
allowed_record true Next.Wrap n d h = absurd (let z : ◌≡◌ {A = ℕ} 0 1 = cc in omega arith)
allowed_record true Next.TornWrap n d h = absurd (let z : ◌≡◌ {A = ℕ} 0 1 = cc in omega arith)
allowed_record true Next.Clear n d h = absurd (let z : ◌≡◌ {A = ℕ} 0 1 = cc in omega arith)
allowed_record true Next.Over n d h = absurd (let z : ◌≡◌ {A = ℕ} 0 1 = cc in omega arith)
allowed_record true Next.Bad n d h = absurd (let z : ◌≡◌ {A = ℕ} 0 1 = cc in omega arith)

module _ (s : Image) (c : Cursor) (n d : ℕ) (h : look s c ≡ Next.Record n d) where
  fits : size_of n d ≤ c.end - c.at
  fits = look_inside s c n d h

  -- the record is read again, if no byte of it is written
  pub look_kept : (a b : ℕ) → Outside a c.at (size_of n d) → look (set s a b) c ≡ Next.Record n d
  unfolding look
  look_kept a b o =
      let p = allowed_record c.pending (next (window s c)) n d h in
      let off : (i : ℕ) → i < size_of n d → c.at + i ≡ a
      → ⊥ = λ i l q. ⊎_elim (λ (u : a < c.at). omega arith) (λ (u : c.at + size_of n d ≤ a). omega arith) o in
      let same : (i : ℕ) → i < size_of n d
      → get_or (window (set s a b) c) i 0 ≡ get_or (window s c) i 0 = λ i l. byte_kept s a b c i (omega (arith, fits)) (off i l) in
      p.1 (next (window (set s a b) c))
      (next_kept (window s c) (window (set s a b) c) n d (window_long s a b c) (λ i g l. same i l)
      (λ here. rw (same 0 (omega arith), same 1 (omega arith), same 2 (omega arith), same 3 (omega arith))) p.0)

  -- and if its status goes from F8 to 00
  pub look_dropped : c.at + 2 < length s → get_or s (c.at + 2) 0 ≡ 0xF8 → look (set s (c.at + 2) 0) c ≡ Next.Record n d
  unfolding look
  look_dropped l f =
      let a : ℕ = c.at + 2 in
      let t : Image = set s a 0 in
      let p = allowed_record c.pending (next (window s c)) n d h in
      let same : (i : ℕ) → i < size_of n d → (i ≡ 2 → ⊥)
      → get_or (window t c) i 0 ≡ get_or (window s c) i 0 = λ i g o. byte_kept s a 0 c i (omega (arith, fits)) (λ q. o (omega arith)) in
      let now : status_of (window t c) ≡ 0 =
      get_or-drop c.at (take c.end t) 2 0 ∙ get_or-take c.end t a 0 (omega (arith, fits)) ∙ get_or-set_same s a 0 0 l in
      let was : status_of (window s c) ≡ 0xF8 = get_or-drop c.at (take c.end s) 2 0 ∙ get_or-take c.end s a 0 (omega (arith, fits))
      ∙ f in
      p.1 (next (window t c))
      (next_kept (window s c) (window t c) n d (window_long s a 0 c) (λ i g m. same i m (λ q. omega arith))
      (λ here. rw (
        same 0 (omega arith) (λ q. omega arith),
        same 1 (omega arith) (λ q. omega arith),
        same 3 (omega arith)
            (λ q. omega arith),
        now,
        was,
      )
      (kind_dropped (low_of (window s c)) (high_of (window s c)) (spare_of (window s c)) (window s c) (rw was at here))) p.0)

-- ---- the step is the same

module _ {s : Image} {c : Cursor} {e : Spot} {behind : Cursor} (tidy : Tidy c) (r : Reached s c e behind) (a b : ℕ) (o : Ahead r.seen a)
    (l : look (set s a b) r.seen ≡ Next.Record e.n e.d) where
  again : {d : Cursor} → From s c d → Ahead d a → look (set s a b) d ≡ Next.Record e.n e.d → From (set s a b) c d
  again (here f) p k = here (ap (goes_on c.room) k)
  again (turned f) p k =
      turned (ap (goes_on c.room) (window_kept s a b c tidy.ordered (inl (omega (arith, below_room c a p, tidy.apart)))) ∙ f)

  pub step_again : unfinished_at (set s a b) r.seen.at ≡ unfinished_at s r.seen.at → advance (set s a b) c ≡ Item.Record e behind
  step_again u =
      from_advance (again r.from o l) ∙ ap (settle (set s a b) r.seen) l
      ∙ ap₂ Item.Record (ap (λ (i : ℕ). record { at = i; n = e.n; d = e.d }) (sym r.at))
      (ap (past r.seen (size_of e.n e.d)) u ∙ sym r.next_is)
