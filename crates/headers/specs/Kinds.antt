-- What the four bytes of a header say of what stands there.
use Rattle.std.specs.Prelude.{ℕ, ◌≡◌, Bool, ◌||◌, List, ltb, eqb}
use Rattle.std.proofs.Common.{sym, inl, inr}
use Rattle.std.proofs.Math.Path.{refl}
use Rattle.std.proofs.Math.Bool.{true, false}
use lib.ListN.{length, drop}
use Rattle.spec.specs.declared.Kind.{Kind}
use Rattle.spec.specs.declared.Next.{Next}
use Rattle.spec.specs.Basics.{long, blank}
use Rattle.spec.specs.Bytes.{is_record, is_start, is_clean, is_wrap, is_high}
use Rattle.spec.specs.Bytes.{is_erased, is_reserved, is_unfinished, is_wrapped, is_spare}
use Rattle.spec.specs.Bytes.{clears, on_way, under_way, is_record_begun, is_wrap_begun}
use Rattle.spec.specs.Record.{low_of, high_of, status_of, spare_of, size_of, data_len_of, name_length}
use Rattle.spec.specs.Next.{is_torn_marker, kind, sized, torn_wrap_at, clear_at, next_at, next}
use Rattle.laws.specs.Tests.{wrong}
use Rattle.laws.specs.Head.{Low}

-- the kind of what stands at the front of s
abbrev pub kind_of : List ℕ → Kind
kind_of s = kind (low_of s) (high_of s) (status_of s) (spare_of s)

-- ---- a record that was read has a record's kind

-- a kind that may be read as a record
abbrev pub Recorded : Kind → Type 0
Recorded Kind.Record = Unit {0}
Recorded Kind.Reserved = Unit {0}
Recorded Kind.Torn = Unit {0}
Recorded Kind.Marker = ⊥
Recorded Kind.TornMarker = ⊥
Recorded Kind.Clear = ⊥
Recorded Kind.Bad = ⊥

abbrev pub NotARecord : Next → Type 0
NotARecord (Next.Record n d) = ⊥
NotARecord Next.Wrap = Unit {0}
NotARecord Next.TornWrap = Unit {0}
NotARecord Next.Clear = Unit {0}
NotARecord Next.Over = Unit {0}
NotARecord Next.Bad = Unit {0}

-- what is read as a record is none of the others
pub not_both_read : (x : Next) (n d : ℕ) → NotARecord x → x ≡ Next.Record n d → ⊥
not_both_read x n d z e = rw e at z

torn_wrap_none : (s : List ℕ) (t : Bool) → blank (drop 3 s) ≡ t → NotARecord (torn_wrap_at s)
unfolding torn_wrap_at
torn_wrap_none s true e = rw (torn_wrap_at, e) tt
torn_wrap_none s false e = rw (torn_wrap_at, e) tt

clear_none : (s : List ℕ) (t : Bool) → blank (lib.ListN.take 8 s) ≡ t → NotARecord (clear_at s)
unfolding clear_at
clear_none s true e = rw (clear_at, e) tt
clear_none s false e = rw (clear_at, e) tt

recorded_at : (s : List ℕ) (n d : ℕ) (k : Kind) → next_at k s ≡ Next.Record n d → Recorded k
unfolding next_at
recorded_at s n d Kind.Record e = tt
recorded_at s n d Kind.Reserved e = tt
recorded_at s n d Kind.Torn e = tt
recorded_at s n d Kind.Marker e = not_both_read Next.Wrap n d tt e
recorded_at s n d Kind.TornMarker e = not_both_read (torn_wrap_at s) n d (torn_wrap_none s _ refl) e
recorded_at s n d Kind.Clear e = not_both_read (clear_at s) n d (clear_none s _ refl) e
recorded_at s n d Kind.Bad e = not_both_read Next.Bad n d tt e

pub recorded : (s : List ℕ) (n d : ℕ) → next s ≡ Next.Record n d → Recorded (kind_of s)
unfolding next
recorded s n d e = go (long 1 s) (long 8 s) refl refl where
  go : (t u : Bool) → long 1 s ≡ t → long 8 s ≡ u → Recorded (kind_of s)
  go false u p q = absurd (not_both_read Next.Over n d tt (rw (next, p) at e))
  go true false p q = absurd (not_both_read Next.Bad n d tt (rw (next, p, q) at e))
  go true true p q = recorded_at s n d (kind_of s) (rw (next, p, q) at e)

-- ---- and its first byte is one of three, if it is finished

module _ (b c st m : ℕ) where
  low_known : is_unfinished st ≡ false → Recorded (kind b c st m) → (is_record b || is_start b || is_clean b) ≡ true
  unfolding kind is_unfinished
  low_known f r = go (is_spare m) (is_torn_marker b c st) (is_erased st) (is_high c) (is_wrap b) (is_wrapped st)
      (is_record b || is_start b || is_clean b) refl refl refl refl refl refl refl where
        go : (t u v w x y z : Bool) → is_spare m ≡ t → is_torn_marker b c st ≡ u → is_erased st ≡ v → is_high c ≡ w → is_wrap b ≡ x
            → is_wrapped st ≡ y → (is_record b || is_start b || is_clean b) ≡ z → (is_record b || is_start b || is_clean b) ≡ true
        go t u v w x y true p1 p2 p3 p4 p5 p6 p7 = p7
        go false u v w x y false p1 p2 p3 p4 p5 p6 p7 = absurd (rw (kind, p1) at r)
        go true true v w x y false p1 p2 p3 p4 p5 p6 p7 = absurd (rw (kind, p1, p2) at r)
        go true false true w x y false p1 p2 p3 p4 p5 p6 p7 = wrong (sym (rw p3 at f))
        go true false false false x y false p1 p2 p3 p4 p5 p6 p7 = absurd (rw (kind, p1, p2, p3, p4) at r)
        go true false false true true true false p1 p2 p3 p4 p5 p6 p7 = absurd (rw (kind, p1, p2, p3, p4, p5, p6) at r)
        go true false false true true false false p1 p2 p3 p4 p5 p6 p7 = absurd (rw (kind, p1, p2, p3, p4, p5, p6) at r)
        go true false false true false y false p1 p2 p3 p4 p5 p6 p7 = absurd (rw (kind, p1, p2, p3, p4, p5, p7) at r)

pub record_low : (s : List ℕ) (n d : ℕ) → next s ≡ Next.Record n d → is_unfinished (status_of s) ≡ false
    → (is_record (low_of s) || is_start (low_of s) || is_clean (low_of s)) ≡ true
record_low s n d e f = low_known (low_of s) (high_of s) (status_of s) (spare_of s) f (recorded s n d e)

-- ---- where a START or CLEAN byte stands there is a record, or a rule is broken

abbrev pub RecordOrBad : Next → Type 0
RecordOrBad (Next.Record n d) = Unit {0}
RecordOrBad Next.Wrap = ⊥
RecordOrBad Next.TornWrap = ⊥
RecordOrBad Next.Clear = ⊥
RecordOrBad Next.Over = ⊥
RecordOrBad Next.Bad = Unit {0}

abbrev Marked : Kind → Type 0
Marked Kind.Record = Unit {0}
Marked Kind.Reserved = Unit {0}
Marked Kind.Torn = ⊥
Marked Kind.Marker = ⊥
Marked Kind.TornMarker = ⊥
Marked Kind.Clear = ⊥
Marked Kind.Bad = Unit {0}

module _ (b c st m : ℕ) (r : is_record_begun b ≡ false) (w : is_wrap_begun b ≡ false) (f : eqb b 0xFF ≡ false) (x : is_wrap b ≡ false) where
  kind_marked : Marked (kind b c st m)
  unfolding kind is_torn_marker
  kind_marked = go (is_spare m) (is_erased st) (is_high c) (is_reserved st)
      (is_record b || is_start b || is_clean b) refl refl refl refl refl where
        go : (t u v y z : Bool) → is_spare m ≡ t → is_erased st ≡ u → is_high c ≡ v → is_reserved st ≡ y
            → (is_record b || is_start b || is_clean b) ≡ z → Marked (kind b c st m)
        go false u v y z p1 p2 p3 p4 p5 = rw (kind, p1) tt
        go true true v y z p1 p2 p3 p4 p5 = rw (kind, is_torn_marker, r, w, f, p1, p2) tt
        go true false false y z p1 p2 p3 p4 p5 = rw (kind, is_torn_marker, w, p1, p2, p3) tt
        go true false true true true p1 p2 p3 p4 p5 = rw (kind, is_torn_marker, w, x, p1, p2, p3, p4, p5) tt
        go true false true false true p1 p2 p3 p4 p5 = rw (kind, is_torn_marker, w, x, p1, p2, p3, p4, p5) tt
        go true false true y false p1 p2 p3 p4 p5 = rw (kind, is_torn_marker, w, x, p1, p2, p3, p5) tt

low_marked : (b c st m : ℕ) → Low b → Marked (kind b c st m)
unfolding is_record_begun is_wrap_begun under_way on_way clears is_wrap
low_marked b c st m (inl e) = rw e (kind_marked 0x00 c st m refl refl refl refl)
low_marked b c st m (inr (inl e)) = rw e (kind_marked 0xA0 c st m refl refl refl refl)
low_marked b c st m (inr (inr e)) = rw e (kind_marked 0x80 c st m refl refl refl refl)

module _ (s : List ℕ) where
  sized_or_bad : (n d : ℕ) (t u : Bool) → ltb n 64 ≡ t → long (size_of n d) s ≡ u → RecordOrBad (sized s n d)
  unfolding sized
  sized_or_bad n d true true e f = rw (sized, e, f) tt
  sized_or_bad n d true false e f = rw (sized, e, f) tt
  sized_or_bad n d false u e f = rw (sized, e) tt

  at_or_bad : (k : Kind) → Marked k → RecordOrBad (next_at k s)
  unfolding next_at
  at_or_bad Kind.Record p = sized_or_bad (name_length 64 false (drop 8 s)) (data_len_of s) _ _ refl refl
  at_or_bad Kind.Reserved p = sized_or_bad (name_length 64 true (drop 8 s)) (data_len_of s) _ _ refl refl
  at_or_bad Kind.Torn p = absurd p
  at_or_bad Kind.Marker p = absurd p
  at_or_bad Kind.TornMarker p = absurd p
  at_or_bad Kind.Clear p = absurd p
  at_or_bad Kind.Bad p = tt

  pub low_next : long 1 s ≡ true → Low (low_of s) → RecordOrBad (next s)
  unfolding next
  low_next l b = go (long 8 s) refl where
    go : (u : Bool) → long 8 s ≡ u → RecordOrBad (next s)
    go true q = rw (next, l, q) (at_or_bad (kind_of s) (low_marked (low_of s) (high_of s) (status_of s) (spare_of s) b))
    go false q = rw (next, l, q) tt
