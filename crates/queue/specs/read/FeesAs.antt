-- What the functions of the search ensure: candidates are records that stand at places of an area.
use Rattle.std.specs.Prelude.{◌≡◌, false, List, [], ◌++◌, ℕ, ◌+◌, ◌≤◌, length, get_or}
use Rattle.std.proofs.Math.Option.{none}
use Rattle.queue.specs.Codec.{be}
use Rattle.queue.specs.layout.FrameCodec.{rec_c}
use Rattle.queue.specs.bytes.ReaderAs.{list_at}
use Rattle.queue.specs.layout.FormsCodec.{form_c}
use Rattle.queue.specs.read.SelectAs.{Row, id_at, RecStands}
use Rattle.queue.specs.paper.Records.{Bytes, Id, Rec}
use Rattle.queue.specs.paper.Calls.{ids_bytes}
use Rattle.queue.specs.paper.Lists.{map}
use Rattle.queue.specs.paper.Fees.{size_of, fee_of}
use Rattle.queue.specs.declared.read.fees.Candidate.{Candidate}
use Rattle.queue.specs.declared.read.fees.Choice.{Choice}

-- any record, where none stands
abbrev pub no_rec : Rec
no_rec = record {
  id = [];
  caller = 0;
  state = 0;
  reason = 0;
  terms = record { created = 0; due = none; due_height = none; priority = 0; label = none; fee = 0; size = 0; cost = 0 };
  place = none;
  mark = 0;
  finish = 0;
  body = none;
}

-- the record that stands at p
unfoldable pub rec_at_value : Bytes → ℕ → Rec
rec_at_value s p = get_or (list_at (form_c false rec_c) 1 s p) 0 no_rec

abbrev pub rec_of_row : Bytes → Row → Rec
rec_of_row s w = rec_at_value s w.1.1

-- one stands there, with its id
pub record Known (s : Bytes) (p : ℕ) : Type 0 where
  pub stands : RecStands s p
  pub id : id_at s p ≡ (rec_at_value s p).id
  pub within : p + 33 ≤ length s

-- the sizes and the fees of candidates
abbrev pub sizes_of : List Candidate → List ℕ
sizes_of z = map (λ c. c.size) z

abbrev pub fees_of : List Candidate → List ℕ
fees_of z = map (λ c. c.fee) z

-- those of the records at these places
pub record Candidates (s : Bytes) (at : List ℕ) (z : List Candidate) : Type 0 where
  pub sizes : sizes_of z ≡ map (λ p. size_of (rec_at_value s p)) at
  pub fees : fees_of z ≡ map (λ p. fee_of (rec_at_value s p)) at

-- the answer's bytes, with the ids of the set
unfoldable pub choice_bytes : Choice → List Id → Bytes
choice_bytes b ids = be 8 b.fee ++ (be 4 b.nodes ++ (be 8 b.distance ++ ids_bytes ids))
