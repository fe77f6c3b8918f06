-- Records that stand in bytes or in a text.
use Rattle.std.specs.Prelude.{◌≡◌, true, List, ℕ, ◌≤◌, length}
use Rattle.queue.specs.Codec.{Codec}
use Rattle.queue.specs.bytes.ReaderAs.{whole, list_at}
use Rattle.queue.specs.paper.Records.{Bytes, Rec}
use Rattle.queue.specs.declared.layout.records.Records.{Records}

abbrev pub records : ℕ → ℕ → Records
records start count = record { start = start; count = count }

-- as many as r says stand from its start on
abbrev pub RecordsIn : Codec Rec → Bytes → Records → Type 0
RecordsIn 𝓐 s r = (r.start ≤ length s) × (whole 𝓐 r.count s r.start ≡ true)

-- and are these
abbrev pub recs_at : Codec Rec → Bytes → Records → List Rec
recs_at 𝓐 s r = list_at 𝓐 r.count s r.start
