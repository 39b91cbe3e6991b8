-- The walk and the search for the head, one step at a time.
use Rattle.std.specs.Prelude.{ℕ, zero, suc, ◌+◌, ◌≤◌, ◌<◌, ◌≡◌, refl, true, false, ◌||◌, List, length, drop}
use Rattle.spec.specs.declared.Next.{Next}
use Rattle.spec.specs.Record.{size_of, start_here, clean_here}
use Rattle.spec.specs.Head.{torn_here, walked_here, walk_next, walk, search}
use Rattle.laws.specs.Parts.{long_le, long_lt}
use Rattle.laws.specs.Next.{NotRecord}

-- nothing there to step over
pub walk_next_none : (at : ℕ) (s : List ℕ) → walked_here at s ≡ false → Next.Bad ≡ walk_next at s
unfolding walk_next
walk_next_none at s h = rw (h, walk_next)

module _ (k at : ℕ) (s : List ℕ) where
  -- "8 further if torn"
  pub walk_torn : torn_here s ≡ true → walk (suc k) at s ≡ at + 8
  unfolding walk
  walk_torn h = rw (h, walk)

  -- over a record
  pub walk_step : (n d : ℕ) → torn_here s ≡ false → walk_next at s ≡ Next.Record n d
      → walk (suc k) at s ≡ walk k (at + size_of n d) (drop (size_of n d) s)
  unfolding walk
  walk_step n d h e = rw (h, e, walk)

  -- no record: it stops
  pub walk_stop : (x : Next) → torn_here s ≡ false → walk_next at s ≡ x → NotRecord x → walk (suc k) at s ≡ at
  unfolding walk
  walk_stop (Next.Record n d) h e w = absurd w
  walk_stop Next.Wrap h e w = rw (h, e, walk)
  walk_stop Next.TornWrap h e w = rw (h, e, walk)
  walk_stop Next.Clear h e w = rw (h, e, walk)
  walk_stop Next.Over h e w = rw (h, e, walk)
  walk_stop Next.Bad h e w = rw (h, e, walk)

  -- the search goes 8 bytes on
  pub search_step : (start_here s || clean_here s) ≡ false → 1 ≤ length s → search (suc k) at s ≡ search k (at + 8) (drop 8 s)
  unfolding search
  search_step h l = rw (h, long_le 1 s l, search)

-- it stops at a START or a CLEAN
pub search_hit : (k at : ℕ) (s : List ℕ) → (start_here s || clean_here s) ≡ true → search k at s ≡ at
unfolding search
search_hit zero at s h = refl
search_hit (suc k) at s h = rw (h, search)

-- and where nothing is left
pub search_end : (k at : ℕ) (s : List ℕ) → (start_here s || clean_here s) ≡ false → length s < 1 → search k at s ≡ at
unfolding search
search_end zero at s h l = refl
search_end (suc k) at s h l = rw (h, long_lt 1 s l, search)
