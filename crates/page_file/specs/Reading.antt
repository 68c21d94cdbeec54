-- What is read from a gate, a header and a free page as they are written.
use Rattle.std.proofs.Common.{◌≡◌, ◌∙◌, ℕ, ◌+◌, ◌^◌, ◌<◌, ◌≤◌, List, true, length, refl, sym, ap, subst}
use Rattle.std.proofs.Common.{arith, inl, lit<}
use Rattle.block_bytes.specs.Numbers.{zeros, number_at, put_number, IsApart}
use Rattle.block_bytes.specs.Laws.{length-zeros, length-put, number_at-put, number_at-put_other}
use Rattle.block_bytes.specs.Kinds.{free_kind}
use Rattle.page_file.specs.declared.header.Header.{Header}
use Rattle.page_file.specs.declared.header.Version.{Version}
use Rattle.page_file.specs.declared.header.Version.TheVariants.{Two, Three}
use Rattle.page_file.specs.Layout.{gate_text, header_text, is_known, gate_block, header_block, header_version}
use Rattle.page_file.specs.Layout.{free_block, version_from, version_number, IsShutGate, IsHeader, kind_of}
use Rattle.page_file.specs.Layout.{link_of}

-- a number put into a block of 4096 bytes leaves one of 4096, keeps what is read elsewhere, and is read
size : (n at x : ℕ) (block : List ℕ) → at + n ≤ 4096 → length block ≡ 4096
    → length (put_number n at x block) ≡ 4096
size n at x block fits is = length-put n at x block (omega (arith, fits, is)) ∙ is

there : (n at x : ℕ) (block : List ℕ) → at + n ≤ 4096 → length block ≡ 4096 → x < 256 ^ n
    → number_at n at (put_number n at x block) ≡ x
there n at x block fits is small = number_at-put n at x block (omega (arith, fits, is)) small

past : (n at m to x v : ℕ) (block : List ℕ) → to + m ≤ 4096 → length block ≡ 4096 → IsApart n at m to
    → number_at n at block ≡ v → number_at n at (put_number m to x block) ≡ v
past n at m to x v block fits is apart was =
    number_at-put_other n at m to x block (omega (arith, fits, is)) apart ∙ was

text_size : (text : ℕ) → length (put_number 8 0 text zeros) ≡ 4096
text_size text = size 8 0 text zeros (omega arith) length-zeros

pub text-gate : (shut : ℕ) → number_at 8 0 (gate_block shut) ≡ gate_text
unfolding gate_block
text-gate shut =
    past 8 0 1 8 shut gate_text _ (omega arith) (text_size gate_text) (inl (omega arith))
    (there 8 0 gate_text zeros (omega arith) length-zeros (lit< tt))

pub shut-gate : (shut : ℕ) → shut < 256 → number_at 1 8 (gate_block shut) ≡ shut
unfolding gate_block
shut-gate shut small = there 1 8 shut _ (omega arith) (text_size gate_text) small

pub length-gate : (shut : ℕ) → length (gate_block shut) ≡ 4096
unfolding gate_block
length-gate shut = size 1 8 shut _ (omega arith) (text_size gate_text)

pub shut_gate : IsShutGate (gate_block 1)
shut_gate = record { text = text-gate 1; shut = shut-gate 1 (lit< tt) }

-- each version has a number of two bytes, which is read as it
a_small_number : (v : Version) → version_number v < 256 ^ 2
a_small_number Two = lit< tt
a_small_number Three = lit< tt

a_known_number : (v : Version) → is_known (version_number v) ≡ true
a_known_number Two = refl
a_known_number Three = refl

the_version_read : (v : Version) → version_from (version_number v) ≡ v
the_version_read Two = refl
the_version_read Three = refl

-- a header is written with its version
pub version_written : (h : Header) → header_version (header_block h) ≡ version_number h.version
unfolding header_block
version_written h =
    let p1 = put_number 8 0 header_text zeros in
    let version = version_number h.version in
    let p2 = put_number 2 8 version p1 in
    let p3 = put_number 4 12 h.next p2 in
    let p4 = put_number 4 16 h.first p3 in
    let l1 : length p1 ≡ 4096 = text_size header_text in
    let l2 : length p2 ≡ 4096 = size 2 8 version p1 (omega arith) l1 in
    let l3 : length p3 ≡ 4096 = size 4 12 h.next p2 (omega arith) l2 in
    let l4 : length p4 ≡ 4096 = size 4 16 h.first p3 (omega arith) l3 in
    past 2 8 4 20 h.count _ p4 (omega arith) l4 (inl (omega arith))
    (past 2 8 4 16 h.first _ p3 (omega arith) l3 (inl (omega arith))
    (past 2 8 4 12 h.next _ p2 (omega arith) l2 (inl (omega arith))
    (there 2 8 version p1 (omega arith) l1 (a_small_number h.version))))

pub header_reads : (h : Header) → h.next < 2 ^ 32 → h.first < 2 ^ 32 → h.count < 2 ^ 32
    → IsHeader h (header_block h)
unfolding header_block
header_reads h n f c =
    let p1 = put_number 8 0 header_text zeros in
    let version = version_number h.version in
    let p2 = put_number 2 8 version p1 in
    let p3 = put_number 4 12 h.next p2 in
    let p4 = put_number 4 16 h.first p3 in
    let l1 : length p1 ≡ 4096 = text_size header_text in
    let l2 : length p2 ≡ 4096 = size 2 8 version p1 (omega arith) l1 in
    let l3 : length p3 ≡ 4096 = size 4 12 h.next p2 (omega arith) l2 in
    let l4 : length p4 ≡ 4096 = size 4 16 h.first p3 (omega arith) l3 in
    record {
      text = past 8 0 4 20 h.count _ p4 (omega arith) l4 (inl (omega arith))
          (past 8 0 4 16 h.first _ p3 (omega arith) l3 (inl (omega arith))
          (past 8 0 4 12 h.next _ p2 (omega arith) l2 (inl (omega arith))
          (past 8 0 2 8 version _ p1 (omega arith) l1 (inl (omega arith))
          (there 8 0 header_text zeros (omega arith) length-zeros (lit< tt)))));
      known = subst (λ (n : ℕ). is_known n ≡ true) (sym (version_written h)) (a_known_number h.version);
      version_is = ap version_from (version_written h) ∙ the_version_read h.version;
      next_is =
          past 4 12 4 20 h.count _ p4 (omega arith) l4 (inl (omega arith))
          (past 4 12 4 16 h.first _ p3 (omega arith) l3 (inl (omega arith))
          (there 4 12 h.next p2 (omega arith) l2 n));
      first_is =
          past 4 16 4 20 h.count _ p4 (omega arith) l4 (inl (omega arith))
          (there 4 16 h.first p3 (omega arith) l3 f);
      count_is = there 4 20 h.count p4 (omega arith) l4 c;
    }

kind_size : length (put_number 1 0 5 zeros) ≡ 4096
kind_size = size 1 0 5 zeros (omega arith) length-zeros

pub free_link : (next : ℕ) → next < 2 ^ 32 → link_of (free_block next) ≡ next
unfolding free_block
free_link next n = there 4 4 next _ (omega arith) kind_size n

pub kind_of_free : (next : ℕ) → kind_of (free_block next) ≡ free_kind
unfolding free_block
kind_of_free next =
    past 1 0 4 4 next 5 _ (omega arith) kind_size (inl (omega arith))
    (there 1 0 5 zeros (omega arith) length-zeros (lit< tt))
