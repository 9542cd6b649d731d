-- `surgelist::listing_of::write_listing_of` meets its contract: a refused job has its closing line alone; an accepted one the lines of the rows that the
-- run left and the closing line of its answer's numbers, within room for 512 lines and one. Assumes nothing.
use Rattle.std.proofs.Common.{arith, refl}
use Rattle.job.proofs.Accepted.{section_limit}
use Rattle.reader.proofs.AnswerLaws.{refused_is, accepted_is}
use Rattle.recurrence.specs.Calls.{gathered}
use Rattle.surge.specs.Answers.{paper_answer}
use Rattle.surgelist.proofs.ListingLaws.{front_is, front_text, refused_listing}
use Rattle.surgelist.proofs.listing_of.write_listing_of.Goals as goal

pub run-answer-requires-clause-accepted : goal.run-answer-requires-clause-accepted
run-answer-requires-clause-accepted c = let a = accepted_is _ _ _ c.in-Ok.ensures in (a.0, a.2)

pub write_listing-requires-in-Ok : goal.write_listing-requires-in-Ok
write_listing-requires-in-Ok c =
    let a = accepted_is c.args.job.now _ _ c.in-Ok.ensures in
    let few = section_limit c.args.job.now a.0 in
    let kept = c.run-answer.auto in
    let long = c.requires.0 in
    omega (arith, a.1)

pub returns-in-Err : goal.returns-in-Err
unfolding paper_answer
returns-in-Err c =
    let r = refused_is c.args.job.now _ c.in-Err.ensures in
    front_is (rw c.closing-closing.ensures at c.write_listing.ensures) (refused_listing c.args.job.now _ _ r.0 r.1)

pub returns-in-Ok : goal.returns-in-Ok
returns-in-Ok c =
    let a = accepted_is c.args.job.now _ _ c.in-Ok.ensures in
    let n = c.run-answer.new in
    let rows = gathered n.heads n.flows n.highest n.lowest n.speeds n.inflows n.spare in
    front_is (front_text rows (paper_answer c.run-answer.result) _ (rw c.closing-closing-in-Ok.ensures at c.write_listing-in-Ok.ensures) a.1 refl refl refl) c.run-answer.ensures
