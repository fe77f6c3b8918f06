-- The reading calls that write a piece for each record that passes.
use Rattle.std.specs.Prelude.{◌≡◌, Bool, true, cond, ◌&&◌, List, [], ◌∷◌, ◌++◌, ℕ, ◌+◌, ◌-◌, ◌*◌, ◌≤◌, eqb, length, take, drop, is_some}
use Rattle.queue.specs.Codec.{be}
use Rattle.queue.specs.layout.FrameAs.{facts_of}
use Rattle.queue.specs.check.RulesAs.{due_f}
use Rattle.queue.specs.read.ReadingAs.{entry_at, entry_len_value, EntryIn}
use Rattle.queue.specs.paper.Records.{Bytes, Rec}
use Rattle.queue.specs.paper.Lists.{count}
use Rattle.queue.specs.paper.Area.{place_bytes}
use Rattle.queue.specs.Checked.{Written}
use Rattle.queue.specs.paper.Calls.{entry_bytes, read_of}
use Rattle.queue.specs.declared.layout.frame.Facts.{Facts}
use Rattle.queue.specs.declared.layout.frame.Seen.{Seen}
use Rattle.queue.specs.declared.read.pieces.What.{What}
use Rattle.queue.specs.declared.read.pieces.What.TheVariants.{Ids, Guarded, DueBy, Confirmed, Entries}
use Rattle.queue.specs.declared.read.pieces.Sizes.{Sizes}

-- does a record pass?
unfoldable pub passes_f : What → Facts → Bool
passes_f Ids f = true
passes_f Guarded f = f.holder
passes_f (DueBy t h) f = due_f t.0 h.0 f
passes_f Confirmed f = eqb f.state 2 && is_some f.mined
passes_f Entries f = true

abbrev pub passes? : What → Rec → Bool
passes? w r = passes_f w (facts_of r)

-- its piece
unfoldable pub piece_of : What → Rec → Bytes
piece_of Ids r = r.id
piece_of Guarded r = r.id
piece_of (DueBy t h) r = r.id ++ be 1 r.state
piece_of Confirmed r = r.id ++ drop 1 (place_bytes r.place)
piece_of Entries r = entry_bytes r

abbrev pub part_of : What → Rec → Bytes
part_of w r = cond (passes? w r) (piece_of w r) []

unfoldable pub pieces_of : What → List Rec → Bytes
pieces_of w [] = []
pieces_of w (r ∷ l) = part_of w r ++ pieces_of w l

-- the answer: how many, and the pieces
unfoldable pub answer_bytes : What → List Rec → Bytes
answer_bytes w l = be 4 (count (passes? w) l) ++ pieces_of w l

unfoldable pub told_pieces : What → Bytes → Bytes → Written
told_pieces w area out = read_of (λ q. answer_bytes w q.recs) area out

-- its id and state
unfoldable pub due_at : Bytes → ℕ → Bytes
due_at s base = take 32 (drop (base + 1) s) ++ take 1 (drop (base + 34) s)

-- the piece of a record that was read at base
unfoldable pub piece_at : What → Bytes → ℕ → Seen → Bytes
piece_at Ids s base x = take 32 (drop (base + 1) s)
piece_at Guarded s base x = take 32 (drop (base + 1) s)
piece_at (DueBy t h) s base x = due_at s base
piece_at Confirmed s base x = take 32 (drop (base + 1) s) ++ take (x.mark - x.after - 1) (drop (base + x.after + 1) s)
piece_at Entries s base x = entry_at s base x

unfoldable pub piece_len_value : What → Seen → ℕ
piece_len_value Ids x = 32
piece_len_value Guarded x = 32
piece_len_value (DueBy t h) x = 33
piece_len_value Confirmed x = 32 + (x.mark - x.after - 1)
piece_len_value Entries x = entry_len_value x

pub record PieceIn (s : Bytes) (base : ℕ) (x : Seen) : Type 0 where
  pub id : base + 46 ≤ length s
  pub up : x.after + 1 ≤ x.mark
  pub entry : EntryIn s base x

pub record MeasureAs (w : What) (l : List Rec) (n : ℕ) (x : Sizes) : Type 0 where
  pub count : x.count ≡ count (passes? w) l
  pub size : x.size ≡ length (pieces_of w l)
  pub few : x.count ≤ n
  pub most : x.size ≤ n * 4294967295
