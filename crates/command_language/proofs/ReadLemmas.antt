-- One read after another, and the texts that were taken of what was read.
use Rattle.std.proofs.Common.{◌≡◌, ℕ, suc, ◌+◌, ◌<◌, ◌≤◌, add-one, Bool, true, false, List, [], ◌∷◌, ◌++◌}
use Rattle.std.proofs.Common.{length, take, drop, Option, Some, None, refl, sym, ap, ◌∙◌, subst, append_assoc}
use Rattle.std.proofs.Common.{arith}
use Rattle.std.specs.Io.KnownBytes.{Consumes, IsAtEnd}
use Rattle.std.proofs.lemmas.List.{take-append-drop, take_all, drop_all}
use Rattle.command_language.specs.Lines.{newline, IsOneLine, IsWhole, lines_of}
use Rattle.command_language.specs.Lines.IsWhole.{none, ends}
use Rattle.command_language.specs.Pending.{Finds}
use Rattle.command_language.specs.Reading.{ReadsTo, StopsAt, Reads}
use Rattle.command_language.specs.declared.lines.Found.TheVariants as Found
use Rattle.command_language.proofs.TextLemmas.{append_none, lines_of-last, whole_more}

consumes_none : (a : Option (List ℕ)) → Consumes a a []
consumes_none None = tt
consumes_none (Some a) = refl

consumes_more : (a b c : Option (List ℕ)) (x y : List ℕ) → Consumes a b x → Consumes b c y
    → Consumes a c (x ++ y)
consumes_more None b c x y p q = tt
consumes_more (Some a) None c x y p q = elim p [ ]
consumes_more (Some a) (Some b) None x y p q = elim q [ ]
consumes_more (Some a) (Some b) (Some c) x y p q = p ∙ ap (λ t. x ++ t) q ∙ sym (append_assoc x y c)

stops_more : (ended : Bool) (at_end : Type 0) (x y left : List ℕ) → IsWhole x → StopsAt ended at_end y left
    → StopsAt ended at_end (x ++ y) left
stops_more true at_end x y left h k = k
stops_more false at_end x y left h k = whole_more x y h k

-- one read after another
pub reads_on : {old mid new : Option (List ℕ)} {P Q S : List ℕ → Type 0} → ReadsTo old mid P
    → ReadsTo mid new Q → ((x y : List ℕ) → P x → Q y → S (x ++ y)) → ReadsTo old new S
reads_on p q f =
    record {
      more = p.more ++ q.more;
      read = consumes_more _ _ _ p.more q.more p.read q.read;
      so = f p.more q.more p.so q.so;
    }

-- nothing was taken
pub reads_none : (r : Option (List ℕ)) (pending : List ℕ) → Reads false r r pending pending []
reads_none r pending =
    record { stops = none; read = record { more = []; read = consumes_none r; so = append_none pending } }

-- whole lines were taken, and then a text
pub reads_more : (ended : Bool) (r0 r1 r2 : Option (List ℕ)) (pending mid left x y : List ℕ)
    → Reads false r0 r1 pending mid x → Reads ended r1 r2 mid left y → Reads ended r0 r2 pending left (x ++ y)
reads_more ended r0 r1 r2 pending mid left x y p q = record {
  stops = stops_more ended (IsAtEnd r2) x y left p.stops q.stops;
  read = reads_on p.read q.read
      (λ a b e f. sym (append_assoc pending a b) ∙ ap (λ t. t ++ b) e ∙ append_assoc x mid b
      ∙ ap (λ t. x ++ t) f ∙ sym (append_assoc x y left));
}

-- some bytes were read, and no text was taken of them
pub begun_read : {P : List ℕ → Type 0} (r r' : Option (List ℕ)) (pending : List ℕ) (read : ReadsTo r r' P)
    → Reads false r r' pending (pending ++ read.more) []
begun_read r r' pending read =
    record { stops = none; read = record { more = read.more; read = read.read; so = refl } }

-- a line was found, and taken with its newline
module _ (r r' : Option (List ℕ)) (pending mid left : List ℕ) (n : ℕ) (at_end : Type 0)
    (found : ReadsTo r r' (λ more. Finds at_end (Found.Line n) (pending ++ more) mid)) where
  pub line_read : left ≡ drop (n + 1) mid → Reads false r r' pending left (take n mid ++ newline ∷ [])
  line_read is_left = record {
    stops = ends (take n mid);
    read = record {
      more = found.more;
      read = found.read;
      so = sym found.so.0 ∙ sym (take-append-drop n mid)
          ∙ ap (λ t. take n mid ++ t)
          (subst (λ b. drop n b ≡ newline ∷ drop (suc n) b) (sym found.so.0) found.so.1.ends
          ∙ ap (λ t. newline ∷ t) (sym (is_left ∙ ap (λ j. drop j mid) (add-one n))))
          ∙ sym (append_assoc (take n mid) (newline ∷ []) left);
    };
  }

  pub one_line : IsOneLine (take n mid)
  one_line = subst (λ b. IsOneLine (take n b)) (sym found.so.0) found.so.1.line

-- the last line was found, and taken
pub last_read : (r r' : Option (List ℕ)) (pending mid left : List ℕ) (n : ℕ)
    → ReadsTo r r' (λ more. Finds (IsAtEnd r') (Found.Last n) (pending ++ more) mid) → left ≡ []
    → Reads true r r' pending left mid
last_read r r' pending mid left n found e =
    record {
      stops = (e, found.so.4);
      read = record {
        more = found.more;
        read = found.read;
        so = sym found.so.0 ∙ sym (ap (λ t. mid ++ t) e ∙ append_none mid);
      };
    }

module _ (r r' : Option (List ℕ)) (pending mid : List ℕ) (n : ℕ) (at_end : Type 0)
    (found : ReadsTo r r' (λ more. Finds at_end (Found.Last n) (pending ++ more) mid)) where
  last_len : n ≡ length mid
  last_len = found.so.1 ∙ ap length (sym found.so.0)

  pub last_front : take n mid ≡ mid
  last_front = let h : length mid ≤ n = omega (arith, last_len) in take_all n mid h

  pub last_left : drop n mid ≡ []
  last_left = let h : length mid ≤ n = omega (arith, last_len) in drop_all n mid h

  pub last_line : lines_of mid ≡ mid ∷ []
  last_line =
      lines_of-last mid (omega (arith, last_len, found.so.2)) (subst IsOneLine (sym found.so.0) found.so.3)

-- a line that was too long was passed
pub long_read : (r r' : Option (List ℕ)) (pending left : List ℕ) (at_end : Type 0)
    (found : ReadsTo r r' (λ more. Finds at_end Found.TooLong (pending ++ more) left))
    → Reads false r r' pending left (found.so.0 ++ newline ∷ [])
long_read r r' pending left at_end found =
    record {
      stops = ends found.so.0;
      read = record {
        more = found.more;
        read = found.read;
        so = found.so.3 ∙ sym (append_assoc found.so.0 (newline ∷ []) left);
      };
    }

pub long_last_read : (r r' : Option (List ℕ)) (pending left : List ℕ)
    (found : ReadsTo r r' (λ more. Finds (IsAtEnd r') Found.LastTooLong (pending ++ more) left))
    → Reads true r r' pending left (pending ++ found.more)
long_last_read r r' pending left found =
    record {
      stops = (found.so.2, found.so.3);
      read = record {
        more = found.more;
        read = found.read;
        so = sym (ap (λ t. (pending ++ found.more) ++ t) found.so.2 ∙ append_none (pending ++ found.more));
      };
    }

-- nothing was left
pub end_read : (r r' : Option (List ℕ)) (pending left : List ℕ)
    → ReadsTo r r' (λ more. Finds (IsAtEnd r') Found.End (pending ++ more) left)
    → Reads true r r' pending left []
end_read r r' pending left found =
    record {
      stops = (found.so.0, found.so.2);
      read = record { more = found.more; read = found.read; so = found.so.1 ∙ sym found.so.0 };
    }

pub long_last_line : (bytes : List ℕ) → 4096 < length bytes → IsOneLine bytes → lines_of bytes ≡ bytes ∷ []
long_last_line bytes h k = lines_of-last bytes (omega arith) k
