use Rattle.std.proofs.Common.{◌≡◌, ◌++◌, map, length, take, drop, ap, ◌∙◌}
use Rattle.std.proofs.Math.Seq.{take-append_seam, drop-append_seam}
use Rattle.reader.specs.Nodes.{nodes}
use Rattle.records.specs.Layout.{layout}
use Rattle.records.specs.Inner.Writing.{completed}
use Rattle.records.proofs.Completing.{completes, as_many}
use Rattle.records.proofs.reading.read.Goals as goal

pub returns-clause-answer : goal.returns-clause-answer
returns-clause-answer c =
    let (S, accepted, counts) = c.in_ok-counts.ensures.answer in
    let w = c.write-writer.result in
    let written = c.write-writer.ensures S accepted in
    let value = c.as_slice-written.ensures.value in
    let w_records = c.as_slice-written.result.now in
    let lent = c.args.records.now in
    let copied = c.copy_from_slice.ensures.after in
    let first : take (length w_records) (c.copy_from_slice.new.self ++ drop (length w_records) lent) ≡ w_records =
    ap (λ l. take (length w_records) (l ++ drop (length w_records) lent)) copied ∙ take-append_seam w_records _ in
    let front : c.complete.new.records ≡ layout S = c.complete.ensures ∙ ap (map (completed w.roots)) (first ∙ value) ∙ completes S w written in
    let long : length w_records ≡ nodes S = ap length value ∙ as_many S w written in
    let others : drop (length w_records) (c.copy_from_slice.new.self ++ drop (length w_records) lent) ≡ drop (nodes S) lent =
    ap (λ l. drop (length w_records) (l ++ drop (length w_records) lent)) copied ∙ drop-append_seam w_records _ ∙ ap (λ n. drop n lent) long in
    (S, accepted, counts, (λ i. front i ++ others i))
