-- The walk over a plain record.
use Rattle.std.specs.Prelude.{ℕ, ◌+◌, ◌-◌, ◌≡◌, refl, true, false, List, length, drop}
use Rattle.std.proofs.Common.{arith, length-drop}
use Rattle.spec.specs.declared.Next.{Next}
use Rattle.spec.specs.Bytes.{is_record, is_high, is_erased, is_reserved, is_unfinished}
use Rattle.spec.specs.Record.{size_of, status_of}
use Rattle.spec.specs.Next.{record_at}
use Rattle.spec.specs.Head.{torn_here, walked_here, walk_next}
use Rattle.laws.specs.Tests.{or_left, or_right}
use Rattle.chain.specs.HeadLaws.{Walked, walked_step}
use Rattle.chain.specs.Plain.{Plainly, PlainFront}

module _ (s : List ℕ) (p : Plainly s) where
  -- neither FF nor FE
  not_erased : is_erased (status_of s) ≡ false
  unfolding is_unfinished
  not_erased = or_left (is_erased (status_of s)) (is_reserved (status_of s)) p.finished

  not_reserved : is_reserved (status_of s) ≡ false
  unfolding is_unfinished
  not_reserved = or_right (is_erased (status_of s)) (is_reserved (status_of s)) p.finished

  not_torn : torn_here s ≡ false
  not_torn = rw (not_erased)

  here : (at : ℕ) → walked_here at s ≡ true
  unfolding is_record is_high
  here at = rw (not_erased, p.low, p.high)

  walked : (at n d : ℕ) → Next.Record n d ≡ record_at false s → Next.Record n d ≡ walk_next at s
  unfolding walk_next
  walked at n d e = rw (walk_next, here at, not_reserved) e

pub walked_plain : (image : List ℕ) (at n d : ℕ) → Walked image at → PlainFront (drop at image) (Next.Record n d)
    → Walked image (at + size_of n d)
walked_plain image at n d w p =
    let l : length (drop at image) ≡ length image - at = length-drop at image in
    walked_step image at w (Next.Record n d) (not_torn (drop at image) p.2) (walked (drop at image) p.2 at n d p.3) n d refl
    (omega (arith, p.1.1, l))
