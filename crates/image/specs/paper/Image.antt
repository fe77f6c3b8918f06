-- The image writer and opening, on lent bytes, and how much has to be lent.
use Rattle.std.specs.Prelude.{cond, ℕ, ltb, eqb, length}
use Rattle.std.proofs.Math.Option.{Option, none}
use Rattle.queue.specs.declared.Kind.TheVariants.{Nothing}
use Rattle.queue.specs.paper.Answer.{Answer, Refused, Done}
use Rattle.queue.specs.Areas.{read_area, kind_of, read_image}
use Rattle.queue.specs.paper.Records.{Bytes, Limits, Queue}
use Rattle.queue.specs.paper.Lists.{maybe}
use Rattle.queue.specs.paper.Sound.{in_range, need}
use Rattle.queue.specs.paper.Kinds.{newest, oldest, says?}
use Rattle.queue.specs.paper.Area.{shares_bytes, image_under, image_bytes, over}
use Rattle.queue.specs.paper.Calls.{put_queue}

-- the image into an output, its length behind a reference: 3, 4
unfoldable pub image_of : Bytes → Bytes → ℕ → Answer × (Bytes × ℕ)
image_of area out old =
    maybe (Refused 3, (out, old))
    (λ q. cond (ltb (length out) (length (image_bytes q))) (Refused 4, (out, old)) (Done Nothing, (over (image_bytes q) out, length (image_bytes q))))
    (read_area area)

-- "Opening takes the limits from the header and sets persisted to the cursor height." 16: "not the image of a sound queue with
-- limits in range"; 2
unfoldable pub open_of : Bytes → Bytes → Answer × Bytes
open_of text area = maybe (Refused 16, area) (λ q. put_queue (Done Nothing) q area) (read_image text)

-- "An area needs 2B + 2P(512 + 64K) + 512T + 512 bytes" (document 02, P11: 96K), behind a reference: 1, as for a fresh queue
unfoldable pub need_of : Limits → ℕ → Answer × ℕ
need_of m old = cond (in_range m) (Done Nothing, need m) (Refused 1, old)

-- P, B, T, K, and what an area needs under them; the shares have no part in it
abbrev pub Five : Type 0
Five = ℕ × (ℕ × (ℕ × (ℕ × ℕ)))

abbrev pub limits_need : Limits → Five
limits_need m = (m.P, (m.B, (m.T, (m.K, need m))))

-- The limits that opening takes from the header, and the need of the area to open into, behind five references, and the shares into
-- an output: 16, as opening; 4
unfoldable pub image_limits_of : Bytes → Five → Bytes → Answer × (Five × Bytes)
image_limits_of text old shares =
    maybe (Refused 16, (old, shares))
    (λ q. cond (ltb (length shares) 64) (Refused 4, (old, shares)) (Done Nothing, (limits_need q.limits, over (shares_bytes q.limits.shares) shares)))
    (read_image text)

-- Document 02, P13: "an image of another kind is 16 to it"
unfoldable pub read_newest : Bytes → Option Queue
read_newest text = cond (eqb (kind_of text) newest) (read_image text) none

-- "a converter from 06 back to 01", text to text, its length behind a reference. "Checks: 22, a priority outside 32 bits, a caller other
-- than 0, shares other than P and fifteen zeros, a withdrawn mark 3 or a read id, after 16 and before 4": what kind 01 can't say
unfoldable pub convert_of : Bytes → Bytes → ℕ → Answer × (Bytes × ℕ)
convert_of text out old =
    maybe (Refused 16, (out, old))
    (λ q. cond (says? oldest q)
    (cond (ltb (length out) (length (image_under oldest q))) (Refused 4, (out, old)) (Done Nothing, (over (image_under oldest q) out, length (image_under oldest q))))
    (Refused 22, (out, old)))
    (read_newest text)
