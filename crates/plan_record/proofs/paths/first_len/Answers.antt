use Rattle.std.proofs.Common.{arith}
use Rattle.plan_record.proofs.PathsLemmas.{goes_on, first_not_missing}
use Rattle.plan_record.proofs.paths.first_len.Goals as goal

pub returns-in-Some-clause-within : goal.returns-in-Some-clause-within
returns-in-Some-clause-within c =
    (goes_on c.args.count c.args.bytes.now c.in-Some.path.now c.in-Some.field-0-1.now (λ i. omega (arith, c.type_inv.bytes i)) c.requires.there c.requires.some c.in-Some.ensures).within

pub returns-in-Some-clause-there : goal.returns-in-Some-clause-there
returns-in-Some-clause-there c =
    (goes_on c.args.count c.args.bytes.now c.in-Some.path.now c.in-Some.field-0-1.now (λ i. omega (arith, c.type_inv.bytes i)) c.requires.there c.requires.some c.in-Some.ensures).there

pub returns-in-Some-clause-left : goal.returns-in-Some-clause-left
returns-in-Some-clause-left c =
    (goes_on c.args.count c.args.bytes.now c.in-Some.path.now c.in-Some.field-0-1.now (λ i. omega (arith, c.type_inv.bytes i)) c.requires.there c.requires.some c.in-Some.ensures).left

pub returns-in-Some-clause-first : goal.returns-in-Some-clause-first
returns-in-Some-clause-first c =
    (goes_on c.args.count c.args.bytes.now c.in-Some.path.now c.in-Some.field-0-1.now (λ i. omega (arith, c.type_inv.bytes i)) c.requires.there c.requires.some c.in-Some.ensures).first

pub returns-in-None-clause-front : goal.returns-in-None-clause-front
returns-in-None-clause-front c = absurd (first_not_missing c.args.count c.args.bytes.now c.requires.some c.requires.there c.in-None.ensures)

pub returns-in-None-clause-first : goal.returns-in-None-clause-first
returns-in-None-clause-first c = absurd (first_not_missing c.args.count c.args.bytes.now c.requires.some c.requires.there c.in-None.ensures)

pub returns-in-None-clause-there : goal.returns-in-None-clause-there
returns-in-None-clause-there c = absurd (first_not_missing c.args.count c.args.bytes.now c.requires.some c.requires.there c.in-None.ensures)

pub returns-in-None-clause-left : goal.returns-in-None-clause-left
returns-in-None-clause-left c = absurd (first_not_missing c.args.count c.args.bytes.now c.requires.some c.requires.there c.in-None.ensures)
