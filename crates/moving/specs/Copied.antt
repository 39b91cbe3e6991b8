-- A record that is copied within its image: the bytes read are those at entry.
use Rattle.std.specs.Prelude.{ℕ, ◌+◌, ◌≤◌, ◌<◌, ◌≡◌, List, [], ◌∷◌, ◌++◌, length, take, drop, get_or}
use Rattle.std.proofs.Common.{arith, sym, ap, ap₂, ◌∙◌, length-drop, length-take-le, drop-drop, get_or-take, get_or-drop}
use Rattle.spec.specs.Geometry.{up8}
use Rattle.spec.specs.Step.{Image, Step, program, bytes_at, shifted}
use Rattle.spec.specs.Record.{four, size_of, Entry, name_of, content_of}
use Rattle.spec.specs.Write.{name_end_steps, header_steps, name_steps, data_steps, commit_steps, record_steps}
use Rattle.flash.specs.Did.{Did, did_both}
use Rattle.laws.specs.Steps.{length_shifted, length_bytes, bytes_more, shifted_append, shifted_bytes}
use Rattle.flash.specs.declared.Meter.{Meter}
use Rattle.record.specs.Within.{NameLength}
use Rattle.chain.specs.Rest.{entry_of}
use Rattle.chain.specs.Fold.{name_length_is, content_length_is}
use Rattle.writing.specs.WriteSteps.{length_name}
use Rattle.moving.specs.Untouched.{Apart, off_part, length_part, Avoids, kept, WritesIn}
use Rattle.moving.specs.Untouched.{writes_bytes, writes_append, writes_shifted, writes_avoids}
use Rattle.laws.specs.Parts.{part_first}

-- the record at this address, with n name bytes and d data bytes, as it is read
abbrev pub entry_at : Image → ℕ → ℕ → ℕ → Entry
entry_at s a n d = entry_of s (record { at = a; n = n; d = d })

module _ (s : Image) (a n d : ℕ) (h : a + size_of n d ≤ length s) where
  pub name_long : length (name_of (entry_at s a n d)) ≡ n
  name_long = name_length_is s (record { at = a; n = n; d = d }) (record { fits = h })

  pub content_long : length (content_of (entry_at s a n d)) ≡ d
  content_long = content_length_is s (record { at = a; n = n; d = d }) (record { fits = h })

-- in an image of length N such a record at `from`, and as many bytes at `to` that have none in common with it
abbrev pub Copyable : ℕ → ℕ → ℕ → ℕ → ℕ → Type 0
Copyable N from to n d = NameLength n × (from + size_of n d ≤ N) × (to + size_of n d ≤ N) × Apart from to (size_of n d)

-- ---- byte by byte

get_d_part : (i n j : ℕ) (l : List ℕ) → j < n → get_or l (i + j) 0 ≡ get_or (take n (drop i l)) j 0
get_d_part i n j l h = sym (get_or-take n (drop i l) j 0 h ∙ get_or-drop i l j 0)

-- the next byte to copy is still as it was
copy_next : {s t : Image} {m r : Meter} (from to n j : ℕ) → Apart from to n → j < n → from + n ≤ length s
    → Did s m (bytes_at to (take j (take n (drop from s)))) t r → get_or t (from + j) 0 ≡ get_or (take n (drop from s)) j 0
copy_next {s} {t} from to n j o h l d =
    let w = take n (drop from s) in
    let short : length (take j w) ≡ j = length-take-le j w (omega (arith, length_part from n s l)) in
    get_d_part from n j t h
    ∙ ap (λ (v : List ℕ). get_or v j 0)
    (kept from n d (writes_avoids to (to + n) from n (bytes_at to (take j w)) o
    (writes_bytes to (to + n) to (take j w) (omega arith) (omega arith))))

-- one byte more
pub copy_more : {s t u : Image} {m q r : Meter} (from to n j : ℕ) → Apart from to n → j < n → from + n ≤ length s
    → Did s m (bytes_at to (take j (take n (drop from s)))) t q → Did t q (program (to + j) (get_or t (from + j) 0) ∷ []) u r
    → Did s m (bytes_at to (take (j + 1) (take n (drop from s)))) u r
copy_more {s} from to n j o h l d e =
    rw (bytes_more to (take n (drop from s)) j (omega (arith, length_part from n s l)))
    (did_both d (rw (copy_next from to n j o h l d) at e))

-- ---- the name and the data, as steps of the whole image

pub copied_name : (s : Image) (from to n : ℕ) → from + 8 + n ≤ length s
    → bytes_at (to + 8) (take n (drop (from + 8) s)) ++ name_end_steps (to + 8 + n) ≡ shifted to
    (name_steps (take n (drop 8 (drop from s))))
copied_name s from to n h =
    let w = take n (drop (from + 8) s) in
    let e : to + (8 + length w) ≡ to + 8 + n = omega (arith, length_part (from + 8) n s h) in
    rw (drop-drop 8 from s) (sym (shifted_append to (bytes_at 8 w) (name_end_steps (8 + length w))
    ∙ ap₂ (λ (l : List Step) (i : ℕ). l ++ name_end_steps i) (shifted_bytes to 8 w) e))

pub copied_data : (s : Image) (from to n d : ℕ)
    → bytes_at (to + (8 + up8 (n + 1))) (take d (drop (from + (8 + up8 (n + 1))) s)) ≡ shifted to
    (data_steps n (take d (drop (up8 (n + 1)) (drop 8 (drop from s)))))
copied_data s from to n d = rw (drop-drop (up8 (n + 1)) 8 (drop from s), drop-drop (8 + up8 (n + 1)) from s)
    (sym (shifted_bytes to (8 + up8 (n + 1)) (take d (drop (from + (8 + up8 (n + 1))) s))))

-- how many steps they are
pub name_count : (s : Image) (from to n : ℕ) → from + 8 + n ≤ length s
    → length (shifted to (name_steps (take n (drop 8 (drop from s))))) ≡ n + 2
name_count s from to n h =
    let w = take n (drop 8 (drop from s)) in
    omega (arith, length_shifted to (name_steps w), length_name w, length-take-le n (drop 8 (drop from s)) (simp length-drop (omega arith)))

pub data_count : (s : Image) (from to n d : ℕ) → from + size_of n d ≤ length s
    → length (shifted to (data_steps n (take d (drop (up8 (n + 1)) (drop 8 (drop from s)))))) ≡ d
data_count s from to n d h =
    let w = content_of (entry_at s from n d) in
    omega (arith, length_shifted to (data_steps n w), length_bytes (8 + up8 (n + 1)) w, content_long s from n d h)

-- ---- what the steps on the copy leave of the record

-- all of a record behind its header, at the front of s, with n name bytes and d data bytes
abbrev pub body : ℕ → ℕ → List ℕ → List ℕ
body n d s = take (up8 (n + 1) + up8 d) (drop 8 s)

pub same_name : (n d : ℕ) (s t : List ℕ) → body n d t ≡ body n d s → take n (drop 8 t) ≡ take n (drop 8 s)
same_name n d s t e =
    let h : 0 + n ≤ up8 (n + 1) + up8 d = omega arith in
    sym (part_first 0 n (up8 (n + 1) + up8 d) (drop 8 t) h) ∙ ap (take n) e ∙ part_first 0 n (up8 (n + 1) + up8 d) (drop 8 s) h

pub same_content : (n d : ℕ) (s t : List ℕ) → body n d t ≡ body n d s
    → take d (drop (up8 (n + 1)) (drop 8 t)) ≡ take d (drop (up8 (n + 1)) (drop 8 s))
same_content n d s t e =
    let h : up8 (n + 1) + d ≤ up8 (n + 1) + up8 d = omega arith in
    sym (part_first (up8 (n + 1)) d (up8 (n + 1) + up8 d) (drop 8 t) h) ∙ ap (λ (w : List ℕ). take d (drop (up8 (n + 1)) w)) e
    ∙ part_first (up8 (n + 1)) d (up8 (n + 1) + up8 d) (drop 8 s) h

pub same_body : {s t : Image} {m r : Meter} {ss : List Step} (from n d : ℕ) → Did s m ss t r → Avoids (from + 8) (up8 (n + 1) + up8 d) ss
    → body n d (drop from t) ≡ body n d (drop from s)
same_body {s} {t} from n d e p = rw (drop-drop 8 from t, drop-drop 8 from s) (kept (from + 8) (up8 (n + 1) + up8 d) e p)

-- ---- the whole record

writes_header : (b d : ℕ) → 8 ≤ b → WritesIn 0 b (header_steps d)
writes_header b d h = (
  omega arith,
  omega arith,
  (
    omega arith,
    omega arith,
    writes_append 0 b (bytes_at 4 (four d)) (program 2 0xFE ∷ [])
        (writes_bytes 0 b 4 (four d) (omega arith) (omega arith)) (omega arith, omega arith, tt),
  ),
)

writes_name : (b : ℕ) (w : List ℕ) → 8 + length w < b → WritesIn 0 b (name_steps w)
writes_name b w h =
    writes_append 0 b (bytes_at 8 w) (name_end_steps (8 + length w)) (writes_bytes 0 b 8 w (omega arith) (omega arith))
    (omega arith, h, (omega arith, h, tt))

pub writes_record : (name content : List ℕ) (z : ℕ) → z ≡ size_of (length name) (length content) → WritesIn 0 z (record_steps name content)
writes_record name content z e =
    let d : List Step = data_steps (length name) content in
    writes_append 0 z (header_steps (length content)) (name_steps name ++ (d ++ commit_steps))
    (writes_header z (length content) (omega arith))
    (writes_append 0 z (name_steps name) (d ++ commit_steps) (writes_name z name (omega arith))
    (writes_append 0 z d commit_steps (writes_bytes 0 z (8 + up8 (length name + 1)) content (omega arith) (omega arith))
    (omega arith, omega arith, tt)))

-- steps of the copy, counted from its start, leave the record as it was
copy_keeps : {s t : Image} {m r : Meter} (ss : List Step) (from to n d e : ℕ) → Apart from to (size_of n d) → e ≤ size_of n d
    → Did s m (shifted to ss) t r → WritesIn 0 e ss
    → body n d (drop from t) ≡ body n d (drop from s)
copy_keeps ss from to n d e o h did p =
    same_body from n d did (writes_avoids (to + 0) (to + e) (from + 8) (up8 (n + 1) + up8 d) (shifted to ss)
    (off_part to (to + size_of n d) from (size_of n d) 8 (up8 (n + 1) + up8 d) (to + 0) (to + e) o (omega arith) (omega arith)
    (omega arith))
    (writes_shifted to 0 e ss p))

-- the steps of a record with n name bytes and d data bytes, phase by phase
record_shifted : (to : ℕ) (name content : List ℕ) (n d : ℕ) → length name ≡ n → length content ≡ d
    → shifted to (record_steps name content)
    ≡ shifted to (header_steps d) ++ (shifted to (name_steps name) ++ (shifted to (data_steps n content) ++ (program (to + 2) 0xFC ∷ [])))
record_shifted to name content n d e f =
    let after-name = data_steps (length name) content ++ commit_steps in
    shifted_append to (header_steps (length content)) (name_steps name ++ after-name)
    ∙ ap₂ ◌++◌ (ap (λ (i : ℕ). shifted to (header_steps i)) f) (shifted_append to (name_steps name) after-name
    ∙ ap (λ (l : List Step). shifted to (name_steps name) ++ l) (shifted_append to (data_steps (length name) content) commit_steps
    ∙ ap (λ (i : ℕ). shifted to (data_steps i content) ++ (program (to + 2) 0xFC ∷ [])) e))

-- the phases of a copy, each reading the image that the one before it left
module _ {s s₁ s₂ s₃ t : Image} {m a b c r : Meter} (from to n d : ℕ) (fits : from + size_of n d ≤ length s)
    (apart : Apart from to (size_of n d))
  where
    pub copied_record : Did s m (shifted to (header_steps d)) s₁ a
        → Did s₁ a (shifted to (name_steps (name_of (entry_at s₁ from n d)))) s₂ b
        → Did s₂ b (shifted to (data_steps n (content_of (entry_at s₂ from n d)))) s₃ c
        → Did s₃ c (program (to + 2) 0xFC ∷ []) t r
        → Did s m (shifted to (record_steps (name_of (entry_at s from n d)) (content_of (entry_at s from n d)))) t r
    copied_record header name content commit =
        let own = entry_at s from n d in
        let named = name_long s from n d fits in
        let filled = content_long s from n d fits in
        let first : body n d (drop from s₁) ≡ body n d (drop from s) =
        copy_keeps (header_steps d) from to n d 8 apart (omega arith) header (writes_header 8 d (omega arith)) in
        let name' : Did s₁ a (shifted to (name_steps (name_of own))) s₂ b = rw (same_name n d (drop from s) (drop from s₁) first) at name in
        let second : body n d (drop from s₂) ≡ body n d (drop from s₁) =
        copy_keeps (name_steps (name_of own)) from to n d (9 + n) apart (omega arith) name'
        (writes_name (9 + n) (name_of own) (omega arith)) in
        let content' : Did s₂ b (shifted to (data_steps n (content_of own))) s₃ c =
        rw (same_content n d (drop from s) (drop from s₂) (second ∙ first)) at content in
        rw (record_shifted to (name_of own) (content_of own) n d named filled) (did_both header (did_both name' (did_both content' commit)))
