-- Document 01, "Image", and docs/AREA.md: the bytes of a sound queue in an area, and its image. Numbers are big-endian.
use Rattle.std.specs.Prelude.{ℕ, ◌+◌, ◌-◌, ◌*◌, ◌%◌, ◌^◌, Bool, cond, List, [], ◌∷◌, ◌++◌, length, drop, replicate}
use Rattle.std.proofs.Math.Option.{Option}
use Rattle.queue.specs.paper.Records.{Bytes, Id, Terms, Held, Rec, Queue}
use Rattle.queue.specs.paper.Lists.{maybe, map, concat}
use Rattle.queue.specs.paper.Sound.{need}
use Rattle.queue.specs.paper.Kinds.{newest, has_callers, has_reads, has_wide}
use Rattle.queue.specs.Codec.{be}
use Rattle.queue.specs.Hex.{text_of}

-- "A flag is 0 or 1; an absent value has no bytes."
abbrev pub flagged : {A : Type 0} → (A → Bytes) → Option A → Bytes
flagged f o = maybe (0 ∷ []) (λ a. 1 ∷ f a) o

-- "priority 4, two's complement". Document 02, P13: "Widen the stored priority to 64 signed bits; images get header kind 06 and eight
-- bytes there"; the older kinds have the low 32 bits of it
abbrev pub priority_under : ℕ → ℕ → Bytes
priority_under k p = cond (has_wide k) (be 8 p) (be 4 (p % 4294967296))

-- "created 8; time flag, 8; height flag, 4; priority ..; label flag, length 1, bytes; fee 8; size 4; cost 8"
unfoldable pub terms_under : ℕ → Terms → Bytes
terms_under k t =
    be 8 t.created
    ++ (flagged (be 8) t.due
    ++ (flagged (be 4) t.due_height
    ++ (priority_under k t.priority
    ++ (flagged (λ l. be 1 (length l) ++ l) t.label ++ (be 8 t.fee ++ (be 4 t.size ++ be 8 t.cost))))))

abbrev pub terms_bytes : Terms → Bytes
terms_bytes t = terms_under newest t

-- "mined flag, height 4, block 32"
unfoldable pub place_bytes : Option (ℕ × Id) → Bytes
place_bytes o = flagged (λ p. be 4 p.0 ++ p.1) o

-- what only some kinds have
abbrev pub since : Bool → Bytes → Bytes
since has bytes = cond has bytes []

-- a count of 2 bytes, and as many ids
abbrev pub id_list_bytes : List Id → Bytes
id_list_bytes l = be 2 (length l) ++ concat l

-- "for a holder input count 2, ids, output count 2, ids, byte count 4, bytes". Document 02, P11: the read ids' "count, 2 bytes, and ids
-- after the outputs"
unfoldable pub held_under : ℕ → Held → Bytes
held_under k h =
    id_list_bytes h.ins
    ++ (id_list_bytes h.outs ++ (since (has_reads k) (id_list_bytes h.reads) ++ (be 4 (length h.bytes) ++ h.bytes)))

abbrev pub held_bytes : Held → Bytes
held_bytes h = held_under newest h

-- "kind 02; id 32; state; reason; .. ; mined ..; withdrawn mark; finish number 8; holder flag; .." Document 02, P8: "the caller, one
-- byte after the id"
unfoldable pub rec_under : ℕ → Rec → Bytes
rec_under k r =
    2 ∷ (r.id
    ++ (since (has_callers k) (be 1 r.caller)
    ++ (be 1 r.state
    ++ (be 1 r.reason
    ++ (terms_under k r.terms ++ (place_bytes r.place ++ (be 1 r.mark ++ (be 8 r.finish ++ flagged (held_under k) r.body))))))))

abbrev pub rec_bytes : Rec → Bytes
rec_bytes r = rec_under newest r

-- "the shares, 4 bytes each"
unfoldable pub shares_bytes : List ℕ → Bytes
shares_bytes l = concat (map (be 4) l)

-- "Header: kind 01; P, B, T, K 4 each; revision 8; cursor height 4; tip flag, tip 32; counter 8; record count 4." Document 02, P4:
-- "header kind 03"; P8: "the header kind becomes 04, with the shares, 4 bytes each, after K"; P11: "header kind 05"; P13: "header kind 06"
unfoldable pub head_under : ℕ → Queue → Bytes
head_under k q =
    k ∷ (be 4 q.limits.P
    ++ (be 4 q.limits.B
    ++ (be 4 q.limits.T
    ++ (be 4 q.limits.K
    ++ (since (has_callers k) (shares_bytes q.limits.shares)
    ++ (be 8 q.revision ++ (be 4 q.cursor ++ (flagged (λ i. i) q.tip ++ (be 8 q.counter ++ be 4 (length q.recs))))))))))

abbrev pub head_bytes : Queue → Bytes
head_bytes q = head_under newest q

-- The persisted height, the header and the records.
unfoldable pub queue_bytes : Queue → Bytes
queue_bytes q = be 4 q.persisted ++ (head_bytes q ++ concat (map rec_bytes q.recs))

-- "one encoding for each sound queue, unused bytes zero"
unfoldable pub area_bytes : Queue → Bytes
area_bytes q = queue_bytes q ++ replicate (need q.limits - length (queue_bytes q)) 0

-- the number that some bytes are
unfoldable pub be_val : Bytes → ℕ
be_val [] = 0
be_val (b ∷ s) = b * 256 ^ length s + be_val s

-- what a write of bs leaves of lent bytes d: "later bytes of the area are untouched"
unfoldable pub over : Bytes → Bytes → Bytes
over bs d = bs ++ drop (length bs) d

-- "Lines of lowercase hexadecimal, one frame a line, each ended by byte 10."
abbrev pub line : Bytes → Bytes
line frame = text_of frame ++ (10 ∷ [])

-- "Header .. Then records by id", under a header kind
unfoldable pub image_under : ℕ → Queue → Bytes
image_under k q = line (head_under k q) ++ concat (map (λ r. line (rec_under k r)) q.recs)

-- the image that is written
abbrev pub image_bytes : Queue → Bytes
image_bytes q = image_under newest q
