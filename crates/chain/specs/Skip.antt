-- Records that are no files of a name, passed over in a search for it.
use Prim.Native.Nat.{ℕ, zero, suc, ◌+◌}
use Rattle.std.proofs.Common.{arith, zero-add, suc-add, ap₂, ◌∙◌}
use Rattle.std.specs.Prelude.{◌≡◌, refl, Bool, true, false, ◌&&◌, ◌||◌, take, drop}
use Rattle.std.proofs.Math.Path.{sym, ap}
use mathlib.Core.List.{List, [], ◌∷◌}
use Rattle.std.proofs.Math.Seq.{take-nil}
use Rattle.spec.specs.Basics.{keep, first_such, Each}
use Rattle.spec.specs.Record.{Entry, name_of}
use Rattle.spec.specs.Files.{named, named_as, has_named, has_name, same_name}
use Rattle.laws.specs.Lists.{any_no, keep_yes, keep_no, first_no}
use Rattle.chain.specs.declared.Cursor.{Cursor}
use Rattle.chain.specs.declared.Spot.{Spot}
use Rattle.chain.specs.declared.Earlier.{Earlier}
use Rattle.chain.specs.Cursor.{CursorSound}
use Rattle.chain.specs.Rest.{rest, entry_of}
use Rattle.chain.specs.Fold.{Passes, Folded}
use Rattle.chain.specs.FileLaws.{is_file}
use Rattle.chain.specs.Seek.{first_of}
use Rattle.chain.specs.Repeats.{same_swap}
use Rattle.chain.specs.Prefix.{each_last, Gone, gone_none, gone_more, front, front_more, Looked, earlier_in}
use Rattle.chain.specs.Held.{file_fc, file_f8}

-- no file of this name
abbrev pub Other : List ℕ → Entry → Type 0
Other name x = (is_file x && has_name name x) ≡ false

-- so is each that is passed from start up to c; m of `most` are left
pub record SkipsOthers (image : List ℕ) (start : Cursor) (name : List ℕ) (most : ℕ) (c : Cursor) (m : ℕ) : Type 0 where
  pub count : ℕ
  pub gone : Gone image start c count
  pub each : Each (Other name) (front image start count)
  pub sum : count + m ≡ most

module _ {image : List ℕ} {start : Cursor} {name : List ℕ} {most : ℕ} where
  pub skips_none : CursorSound image start → SkipsOthers image start name most start most
  skips_none s = record { count = 0; gone = gone_none s; each = tt; sum = zero-add most }

  pub skips_more : {c next : Cursor} {e : Spot} {m k : ℕ} → SkipsOthers image start name most c m → Passes image c e next
      → Other name (entry_of image e) → m ≡ suc k → SkipsOthers image start name most next k
  skips_more {c} {next} {e} {m} {k} w t o q =
      record {
        count = w.count + 1;
        gone = gone_more w.gone t;
        each = rw (front_more w.gone t) (each_last (Other name) (front image start w.count) (entry_of image e) w.each o);
        sum = omega (arith, w.sum);
      }

-- ---- the first file of the name

first_past : (name : List ℕ) (k : ℕ) (es : List Entry) → Each (Other name) (take k es)
    → first_such (has_name name) (keep is_file es) ≡ first_such (has_name name) (keep is_file (drop k es))
first_past name zero es h = refl
first_past name (suc k) [] h = refl
first_past name (suc k) (x ∷ es) h = go (is_file x) refl (first_past name k es h.1) where
  go : (t : Bool) → is_file x ≡ t → first_such (has_name name) (keep is_file es) ≡ first_such (has_name name) (keep is_file (drop k es))
      → first_such (has_name name) (keep is_file (x ∷ es)) ≡ first_such (has_name name) (keep is_file (drop k es))
  go true e ih =
      let n : has_name name x ≡ false = rw e at h.0 in
      ap (first_such (has_name name)) (keep_yes is_file x es e) ∙ first_no (has_name name) x (keep is_file es) n ∙ ih
  go false e ih = ap (first_such (has_name name)) (keep_no is_file x es e) ∙ ih

pub first_beyond : {image : List ℕ} {start c d : Cursor} {name : List ℕ} {most m : ℕ}
    → Folded (first_of (has_name name) is_file) image start tt c tt → SkipsOthers image c name most d m
    → Folded (first_of (has_name name) is_file) image start tt d tt
first_beyond {image} {start} {c} {d} {name} {most} {m} w s =
    record {
      sound = s.gone.sound;
      same =
          w.same ∙ first_past name s.count (rest image c).entries s.each
          ∙ ap (λ (es : List Entry). first_such (has_name name) (keep is_file es)) s.gone.left_over;
    }

-- ---- which records of e's name there are

module _ (st : ℕ) (file : (x : Entry) → named st x ≡ true → is_file x ≡ true) (e : Entry) where
  unlike : (x : Entry) → Other (name_of e) x → named_as st e x ≡ false
  unlike x h = go (named st x) refl where
    go : (t : Bool) → named st x ≡ t → (named st x && same_name e x) ≡ false
    go true q =
        let n : has_name (name_of e) x ≡ false = rw (file x q) at h in
        rw q (same_swap (name_of e) (name_of x) ∙ n)
    go false q = rw q

  named_past : (k m : ℕ) (es : List Entry) → Each (Other (name_of e)) (take k es)
      → has_named st (take (k + m) es) e ≡ has_named st (take m (drop k es)) e
  unfolding has_named
  named_past zero m es h = ap (λ (n : ℕ). has_named st (take n es) e) (zero-add m)
  named_past (suc k) m [] h = ap (λ (l : List Entry). has_named st l e) (take-nil (suc k + m) ∙ sym (take-nil m))
  named_past (suc k) m (x ∷ es) h =
      ap (λ (n : ℕ). has_named st (take n (x ∷ es)) e) (suc-add k m)
      ∙ any_no (named_as st e) x (take (k + m) es) (unlike x h.0) ∙ named_past k m es h.1

abbrev two : Bool → Bool → Earlier
two a b = record { committed = a; migrating = b }

-- the records of one status, before and behind those that are passed
named_beyond : (st : ℕ) → ((x : Entry) → named st x ≡ true → is_file x ≡ true) → (e : Entry) {image : List ℕ} {c d : Cursor} {most m : ℕ}
    → SkipsOthers image c (name_of e) most d m
    → has_named st (take most (rest image c).entries) e ≡ has_named st (take m (rest image d).entries) e
named_beyond st file e {image} {c} {d} {most} {m} s =
    ap (λ (n : ℕ). has_named st (take n (rest image c).entries) e) (sym s.sum)
    ∙ named_past st file e s.count m (rest image c).entries s.each
    ∙ ap (λ (l : List Entry). has_named st (take m l) e) s.gone.left_over

pub earlier_beyond : (e : Entry) {image : List ℕ} {start c d : Cursor} {s₀ : Looked} {f : Earlier} {most m : ℕ}
    → Folded (earlier_in e) image start s₀ c (record { found = f; left = most }) → SkipsOthers image c (name_of e) most d m
    → Folded (earlier_in e) image start s₀ d (record { found = f; left = m })
earlier_beyond e {image} {start} {c} {d} {s₀} {f} {most} {m} w s =
    record {
      sound = s.gone.sound;
      same =
          w.same
          ∙ ap₂ (λ (a b : Bool). two (f.committed || a) (f.migrating || b)) (named_beyond 0xFC file_fc e s)
          (named_beyond 0xF8 file_f8 e s);
    }
