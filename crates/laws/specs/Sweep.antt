-- A sweep, by the first record and whether a second one stands behind it: what stops it, and what its next move copies. Then its moves,
-- one by one.
use Prim.Native.Nat.{ℕ, zero, suc}
use Rattle.std.specs.Prelude.{◌≡◌, Bool, true, false, not, List, [], ◌∷◌}
use Rattle.std.proofs.Math.Path.{refl}
use Rattle.std.proofs.Common.{sym, ◌∙◌}
use Rattle.std.proofs.Math.Option.{some}
use Rattle.spec.specs.Step.{Image}
use Rattle.spec.specs.Record.{Entry, size, name_of, content_of}
use Rattle.spec.specs.Chain.{Reading}
use Rattle.spec.specs.Files.{live}
use Rattle.spec.specs.Place.{fits}
use Rattle.spec.specs.Write.{put_steps}
use Rattle.spec.specs.Move.{begin, copy_steps, move}
use Rattle.spec.specs.Sweep.{no_room, at_end, stuck, moves}
use Rattle.laws.specs.Tests.{not_both}

-- ---- what stops it

-- a live head is not the end
pub end_live : (x : Entry) (es : List Entry) → live (x ∷ es) x ≡ true → at_end (x ∷ es) ≡ false
unfolding at_end
end_live x [] l = rw (at_end, l)
end_live x (y ∷ es) l = refl

-- a dead one alone is
pub end_dead : (x : Entry) → live (x ∷ []) x ≡ false → at_end (x ∷ []) ≡ true
unfolding at_end
end_dead x l = rw (at_end, l)

-- with a second record it is not
pub end_two : (x y : Entry) (es : List Entry) → at_end (x ∷ (y ∷ es)) ≡ false
unfolding at_end
end_two x y es = refl

module _ (r : Reading) where
  pub stuck_end : at_end r.entries ≡ true → stuck r ≡ true
  unfolding stuck
  stuck_end e = rw (stuck, e)

  -- before the end, only want of room
  pub stuck_room : at_end r.entries ≡ false → stuck r ≡ no_room r r.entries
  unfolding stuck
  stuck_room e = rw (stuck, e)

  -- where there is a move, the head is not the end
  pub not_end : stuck r ≡ false → at_end r.entries ≡ false
  not_end s = go (at_end r.entries) refl
    where
      go : (b : Bool) → at_end r.entries ≡ b → at_end r.entries ≡ false
      go true e = absurd (not_both (stuck r) s (stuck_end e))
      go false e = e

  -- and there is room
  pub room_on : stuck r ≡ false → no_room r r.entries ≡ false
  room_on s = sym (stuck_room (not_end s)) ∙ s

  module _ (x : Entry) (es : List Entry) where
    -- a live head needs room
    pub room_live : (t : Bool) → live (x ∷ es) x ≡ true → fits r.place (size x) ≡ t → no_room r (x ∷ es) ≡ not t
    unfolding no_room
    room_live t l f = rw (no_room, l, f)

    -- a dead one needs none
    pub room_dead : live (x ∷ es) x ≡ false → no_room r (x ∷ es) ≡ false
    unfolding no_room
    room_dead l = rw (no_room, l)

    -- ---- what a move begins with

    -- a live head is copied
    pub copy_live : {fs : List Entry} → fs ≡ x ∷ es → live (x ∷ es) x ≡ true
        → copy_steps r fs ≡ put_steps r.place (some x) (name_of x) (content_of x)
    unfolding copy_steps
    copy_live e l = rw (e, copy_steps, l)

    -- a dead one is not
    pub copy_dead : {fs : List Entry} → fs ≡ x ∷ es → live (x ∷ es) x ≡ false → copy_steps r fs ≡ []
    unfolding copy_steps
    copy_dead e l = rw (e, copy_steps, l)

-- ---- moves, one after another

module _ (s : Image) (r : Reading) where
  pub moves_stuck : (k : ℕ) → stuck r ≡ true → moves k s r ≡ []
  unfolding moves
  moves_stuck zero e = refl
  moves_stuck (suc k) e = rw (e, moves)

  pub moves_next : (k : ℕ) → stuck r ≡ false
      → moves (suc k) s r ≡ (move (begin s r)).steps ∷ moves k (move (begin s r)).image (move (begin s r)).reading
  unfolding moves
  moves_next k e = rw (e, moves)
