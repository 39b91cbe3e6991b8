-- What the table of bits says of the records that are passed: the bits of every FC and F8 record's name are set.
use Rattle.std.specs.Prelude.{ℕ, ◌≤◌, ◌≡◌, Bool, ◌||◌, length}
use Rattle.std.proofs.Common.{sym, ◌∙◌}
use Rattle.std.proofs.Math.Path.{refl, ap}
use Rattle.std.proofs.Math.Bool.{true, false}
use mathlib.Core.List.{List, [], ◌∷◌, ◌++◌}
use Rattle.spec.specs.Basics.{any, same, Each}
use Rattle.spec.specs.Record.{Entry, name_of}
use Rattle.spec.specs.Files.{named, named_as, has_named}
use Rattle.filter.specs.declared.Signature.{Signature}
use Rattle.chain.specs.declared.Earlier.{Earlier}
use Rattle.chain.specs.declared.Repeats.{Repeats}
use Rattle.filter.specs.Table.{signature_of, InTable, has, with, has_set, has_kept, length_with}
use Rattle.chain.specs.FileLaws.{is_file}
use Rattle.chain.specs.Repeats.{repeats_of, earlier_of, repeats_with, repeats_none, repeats_same, repeats_more, repeats_first}
use Rattle.chain.specs.Prefix.{each_last}
use Rattle.laws.specs.Tests.{wrong, and_left, and_right}
use Rattle.laws.specs.Lists.{same_is}

abbrev pub signed : Entry → Signature
signed e = signature_of (name_of e)

-- e is a file, and s are the bits of its name
pub record FileSigned (e : Entry) (s : Signature) : Type 0 where
  pub file : is_file e ≡ true
  pub bits : s ≡ signed e
  pub inside : InTable s

-- e's name is in the table, if e is a file
abbrev In : List ℕ → Entry → Type 0
In table e = is_file e ≡ true → has table (signed e) ≡ true

-- so it is of each of these records
pub record Held (table : List ℕ) (es : List Entry) : Type 0 where
  pub size : 512 ≤ length table
  pub each : Each (In table) es

held_same : (table : List ℕ) (es : List Entry) (e : Entry) → Held table es → is_file e ≡ false → Held table (es ++ e ∷ [])
held_same table es e h n = record { size = h.size; each = each_last (In table) es e h.each (λ q. wrong (sym n ∙ q)) }

module _ (table : List ℕ) (s : Signature) (w : InTable s) (size : 512 ≤ length table) where
  each_kept : (es : List Entry) → Each (In table) es → Each (In (with table s)) es
  each_kept [] h = tt
  each_kept (x ∷ es) h = ((λ q. has_kept table s w size (signed x) (h.0 q)), each_kept es h.1)

held_more : (table : List ℕ) (s : Signature) (es : List Entry) (e : Entry) → InTable s → s ≡ signed e → Held table es
    → Held (with table s) (es ++ e ∷ [])
held_more table s es e l q h =
    record {
      size = rw (length_with table s) h.size;
      each =
          each_last (In (with table s)) es e (each_kept table s l h.size es h.each)
          (λ n. ap (has (with table s)) (sym q) ∙ has_set table s l h.size);
    }

-- a name whose bits are not all set is that of no record
module _ (st : ℕ) (file : (x : Entry) → named st x ≡ true → is_file x ≡ true) (table : List ℕ) (e : Entry)
    (n : has table (signed e) ≡ false) where
  none_held : (es : List Entry) → Each (In table) es → has_named st es e ≡ false
  unfolding has_named
  none_held [] h = refl
  none_held (x ∷ es) h = go (named_as st e x) refl (none_held es h.1) where
    go : (t : Bool) → named_as st e x ≡ t → any (named_as st e) es ≡ false → any (named_as st e) (x ∷ es) ≡ false
    go true q ih =
        let f : named st x ≡ true = and_left (named st x) (same (name_of e) (name_of x)) q in
        let s : name_of e ≡ name_of x = same_is (name_of e) (name_of x) (and_right (named st x) (same (name_of e) (name_of x)) q) in
        wrong (sym n ∙ ap (λ (b : List ℕ). has table (signature_of b)) s ∙ h.0 (file x f))
    go false q ih = rw (q, any) ih

pub file_fc : (x : Entry) → named 0xFC x ≡ true → is_file x ≡ true
unfolding is_file
file_fc x h = rw h

pub file_f8 : (x : Entry) → named 0xF8 x ≡ true → is_file x ≡ true
unfolding is_file
file_f8 x h = go (named 0xFC x) where
  go : (t : Bool) → (t || named 0xF8 x) ≡ true
  go true = refl
  go false = h

-- ---- what the loop carries along: right for the records es

pub record Carried (es : List Entry) (n : Repeats) (table : List ℕ) : Type 0 where
  pub right : n ≡ repeats_of es
  pub pending : Held table es

pub carried_none : (table : List ℕ) → 512 ≤ length table → Carried [] (record { doubled = false; superseded = false }) table
carried_none table h = record { right = sym repeats_none; pending = record { size = h; each = tt } }

module _ {es : List Entry} {n : Repeats} {table : List ℕ} (e : Entry) (w : Carried es n table) where
  -- e is no file
  pub carried_same : is_file e ≡ false → Carried (es ++ e ∷ []) n table
  carried_same f = record { right = w.right ∙ sym (repeats_same es e f); pending = held_same table es e w.pending f }

  module _ (s : Signature) (l : InTable s) (q : s ≡ signed e) (f : is_file e ≡ true) where
    -- it is, and its bits were not all set: no record of its name stands before
    pub carried_new : has table s ≡ false → Carried (es ++ e ∷ []) n (with table s)
    carried_new h =
        let m : has table (signed e) ≡ false = ap (has table) (sym q) ∙ h in
        let c : has_named 0xFC es e ≡ false = none_held 0xFC file_fc table e m es w.pending.each in
        let g : has_named 0xF8 es e ≡ false = none_held 0xF8 file_f8 table e m es w.pending.each in
        record {
          right =
              w.right
              ∙ sym (repeats_more es e (named 0xFC e) f refl ∙ repeats_first (repeats_of es) (named 0xFC e) (earlier_of es e) c g);
          pending = held_more table s es e l q w.pending;
        }

    -- else the records before it tell
    pub carried_more : (r : Repeats) (t : Bool) (x : Earlier) → r ≡ repeats_with n t x → t ≡ named 0xFC e → x ≡ earlier_of es e
        → Carried (es ++ e ∷ []) r (with table s)
    carried_more r t x a b c =
        record { right = a ∙ rw (w.right, c) (sym (repeats_more es e t f b)); pending = held_more table s es e l q w.pending }
