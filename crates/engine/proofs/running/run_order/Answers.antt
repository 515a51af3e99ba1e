use Rattle.engine.proofs.Common.{Err, None, ap, refl, subst, ReadsNothing, wanting_not_ok}
use Rattle.engine.proofs.{Ends.ends_defined, Ends.ends_usage, Ends.ends_without_words, Ends.puts_more, Beside.not_ok, Beside.of_order, Beside.without_views, BatchEnds.may_do, BatchEnds.order_read}
use Rattle.engine.proofs.running.run_order.Goals as goal

pub returns-in-Err-Usage-clause-serves : goal.returns-in-Err-Usage-clause-serves
returns-in-Err-Usage-clause-serves g c = λ one is.
    puts_more g.K.Sink.leads c.put_last-in-Err-Usage.ensures (λ more m files agree. without_views files one None
    (((g.met.W.Sink g.world.𝓛 g.world.𝓜 g.world.𝓡 ((λ s x. x), (λ x. x), (λ x. x), λ x. x))).rests c.args.side.now)
    (is.1 (rw c.in-Err-Usage.is (ap Err (rw c.in-Err-Usage.is at c.in-Err-Usage.field-0-is)))) refl (ends_usage m))

pub returns-in-Batch-clause-serves : goal.returns-in-Batch-clause-serves
returns-in-Batch-clause-serves g c = λ one is.
    puts_more g.K.Sink.leads c.put_last.ensures (λ more m files agree. without_views files one None
    (((g.met.W.Sink g.world.𝓛 g.world.𝓜 g.world.𝓡 ((λ s x. x), (λ x. x), (λ x. x), λ x. x))).rests c.args.side.now) (order_read one c.args.read _ _ is.0 c.in-Ok.is c.in-Batch.is) refl (ends_usage m))

pub returns-in-Err-Memory-clause-serves : goal.returns-in-Err-Memory-clause-serves
returns-in-Err-Memory-clause-serves g c = λ one is.
    puts_more g.K.Sink.leads c.put_memory.ensures (λ more m files agree.
    not_ok _ _ (((g.met.W.Sink g.world.𝓛 g.world.𝓜 g.world.𝓡 ((λ s x. x), (λ x. x), (λ x. x), λ x. x))).rests c.args.side.now) (ends_without_words m)
    (wanting_not_ok _ more m))

pub returns-in-Run-clause-serves : goal.returns-in-Run-clause-serves
returns-in-Run-clause-serves g c = λ one is.
    puts_more g.K.Sink.leads c.run_listing.ensures.serves (λ more m files agree. of_order files one _ (order_read one c.args.read _ _ is.0 c.in-Ok.is c.in-Run.is) (m files agree))

pub returns-in-Make-clause-serves : goal.returns-in-Make-clause-serves
returns-in-Make-clause-serves g c = λ one is.
    puts_more g.K.Sink.leads c.put_made.ensures (λ more m files agree. without_views files one _
    (((g.met.W.Sink g.world.𝓛 g.world.𝓜 g.world.𝓡 ((λ s x. x), (λ x. x), (λ x. x), λ x. x))).rests c.args.side.now)
    (order_read one c.args.read _ _ is.0 c.in-Ok.is c.in-Make.is) refl (m (g.F.Folder.faults c.args.folder.now)))

pub returns-in-Plan-clause-serves : goal.returns-in-Plan-clause-serves
returns-in-Plan-clause-serves g c = λ one is.
    puts_more g.K.Sink.leads c.run_plan.ensures.serves (λ more m files agree. without_views files one _
    (((g.met.W.Sink g.world.𝓛 g.world.𝓜 g.world.𝓡 ((λ s x. x), (λ x. x), (λ x. x), λ x. x))).rests c.args.side.now) (order_read one c.args.read _ _ is.0 c.in-Ok.is c.in-Plan.is) refl (m files agree))

pub returns-in-Plan-clause-unasked : goal.returns-in-Plan-clause-unasked
returns-in-Plan-clause-unasked g c = λ one is nothing. absurd (subst ReadsNothing (order_read one c.args.read _ _ is.0 c.in-Ok.is c.in-Plan.is) nothing)

pub run_plan-requires-clause-may : goal.run_plan-requires-clause-may
run_plan-requires-clause-may g c = λ κs outlives. (may_do (g.F.Folder.may c.args.folder.now) c.args.read _ _ c.requires.may c.in-Ok.is c.in-Plan.is).0

pub run_plan-requires-clause-wells : goal.run_plan-requires-clause-wells
run_plan-requires-clause-wells g c = λ κs outlives. (may_do (g.F.Folder.may c.args.folder.now) c.args.read _ _ c.requires.may c.in-Ok.is c.in-Plan.is).1

pub returns-in-Check-clause-serves : goal.returns-in-Check-clause-serves
returns-in-Check-clause-serves g c = λ one is.
    puts_more g.K.Sink.leads c.check.ensures.serves (λ more m files agree. without_views files one _
    (((g.met.W.Sink g.world.𝓛 g.world.𝓜 g.world.𝓡 ((λ s x. x), (λ x. x), (λ x. x), λ x. x))).rests c.args.side.now) (order_read one c.args.read _ _ is.0 c.in-Ok.is c.in-Check.is) refl (m files agree))

pub returns-in-CheckPlan-clause-serves : goal.returns-in-CheckPlan-clause-serves
returns-in-CheckPlan-clause-serves g c = λ one is.
    puts_more g.K.Sink.leads c.check_plan.ensures.serves (λ more m files agree. without_views files one _
    (((g.met.W.Sink g.world.𝓛 g.world.𝓜 g.world.𝓡 ((λ s x. x), (λ x. x), (λ x. x), λ x. x))).rests c.args.side.now)
    (order_read one c.args.read _ _ is.0 c.in-Ok.is c.in-CheckPlan.is) refl (m files agree))

pub returns-in-CheckPlan-clause-unasked : goal.returns-in-CheckPlan-clause-unasked
returns-in-CheckPlan-clause-unasked g c = λ one is nothing. absurd (subst ReadsNothing (order_read one c.args.read _ _ is.0 c.in-Ok.is c.in-CheckPlan.is) nothing)

pub check_plan-requires-clause-may : goal.check_plan-requires-clause-may
check_plan-requires-clause-may g c = (may_do (g.F.Folder.may c.args.folder.now) c.args.read _ _ c.requires.may c.in-Ok.is c.in-CheckPlan.is).0

pub check_plan-requires-clause-wells : goal.check_plan-requires-clause-wells
check_plan-requires-clause-wells g c = (may_do (g.F.Folder.may c.args.folder.now) c.args.read _ _ c.requires.may c.in-Ok.is c.in-CheckPlan.is).1

pub check_plan-requires-clause-listing : goal.check_plan-requires-clause-listing
check_plan-requires-clause-listing g c = (may_do (g.F.Folder.may c.args.folder.now) c.args.read _ _ c.requires.may c.in-Ok.is c.in-CheckPlan.is).2

pub returns-in-Write-clause-serves : goal.returns-in-Write-clause-serves
returns-in-Write-clause-serves g c = λ one is.
    puts_more g.K.Sink.leads c.write.ensures.serves (λ more m files agree. without_views files one _
    (((g.met.W.Sink g.world.𝓛 g.world.𝓜 g.world.𝓡 ((λ s x. x), (λ x. x), (λ x. x), λ x. x))).rests c.args.side.now) (order_read one c.args.read _ _ is.0 c.in-Ok.is c.in-Write.is) refl (m files agree))

pub returns-in-Run-clause-unasked : goal.returns-in-Run-clause-unasked
returns-in-Run-clause-unasked g c = λ one is nothing. absurd (subst ReadsNothing (order_read one c.args.read _ _ is.0 c.in-Ok.is c.in-Run.is) nothing)

pub returns-in-Check-clause-unasked : goal.returns-in-Check-clause-unasked
returns-in-Check-clause-unasked g c = λ one is nothing. absurd (subst ReadsNothing (order_read one c.args.read _ _ is.0 c.in-Ok.is c.in-Check.is) nothing)

pub returns-in-Write-clause-unasked : goal.returns-in-Write-clause-unasked
returns-in-Write-clause-unasked g c = λ one is nothing. absurd (subst ReadsNothing (order_read one c.args.read _ _ is.0 c.in-Ok.is c.in-Write.is) nothing)

pub run_listing-requires-clause-may : goal.run_listing-requires-clause-may
run_listing-requires-clause-may g c = λ κs outlives. may_do (g.F.Folder.may c.args.folder.now) c.args.read _ _ c.requires.may c.in-Ok.is c.in-Run.is

pub check-requires-clause-may : goal.check-requires-clause-may
check-requires-clause-may g c = (may_do (g.F.Folder.may c.args.folder.now) c.args.read _ _ c.requires.may c.in-Ok.is c.in-Check.is).0

pub check-requires-clause-listing : goal.check-requires-clause-listing
check-requires-clause-listing g c = (may_do (g.F.Folder.may c.args.folder.now) c.args.read _ _ c.requires.may c.in-Ok.is c.in-Check.is).1

pub write-requires : goal.write-requires
write-requires g c = record { name = may_do (g.F.Folder.may c.args.folder.now) c.args.read _ _ c.requires.may c.in-Ok.is c.in-Write.is }

pub returns-in-Words-clause-serves : goal.returns-in-Words-clause-serves
returns-in-Words-clause-serves g c = λ one is.
    puts_more g.K.Sink.leads c.put_words.ensures (λ more m files agree. without_views files one _
    (((g.met.W.Sink g.world.𝓛 g.world.𝓜 g.world.𝓡 ((λ s x. x), (λ x. x), (λ x. x), λ x. x))).rests c.args.side.now)
    (order_read one c.args.read _ _ is.0 c.in-Ok.is c.in-Words.is) refl (ends_defined m tt))

pub returns-in-CheckText-clause-serves : goal.returns-in-CheckText-clause-serves
returns-in-CheckText-clause-serves g c = λ one is.
    puts_more g.K.Sink.leads c.check_text.ensures.serves (λ more m files agree. without_views files one _
    (((g.met.W.Sink g.world.𝓛 g.world.𝓜 g.world.𝓡 ((λ s x. x), (λ x. x), (λ x. x), λ x. x))).rests c.args.side.now)
    (order_read one c.args.read _ _ is.0 c.in-Ok.is c.in-CheckText.is) refl (m files agree))

pub returns-in-CheckText-clause-unasked : goal.returns-in-CheckText-clause-unasked
returns-in-CheckText-clause-unasked g c = λ one is nothing. absurd (subst ReadsNothing (order_read one c.args.read _ _ is.0 c.in-Ok.is c.in-CheckText.is) nothing)

pub check_text-requires : goal.check_text-requires
check_text-requires g c = record { may = may_do (g.F.Folder.may c.args.folder.now) c.args.read _ _ c.requires.may c.in-Ok.is c.in-CheckText.is }

pub returns-in-CheckConvertible-clause-serves : goal.returns-in-CheckConvertible-clause-serves
returns-in-CheckConvertible-clause-serves g c = λ one is.
    puts_more g.K.Sink.leads c.check_convertible.ensures.serves (λ more m files agree. without_views files one _
    (((g.met.W.Sink g.world.𝓛 g.world.𝓜 g.world.𝓡 ((λ s x. x), (λ x. x), (λ x. x), λ x. x))).rests c.args.side.now)
    (order_read one c.args.read _ _ is.0 c.in-Ok.is c.in-CheckConvertible.is) refl (m files agree))

pub returns-in-CheckConvertible-clause-unasked : goal.returns-in-CheckConvertible-clause-unasked
returns-in-CheckConvertible-clause-unasked g c = λ one is nothing.
    absurd (subst ReadsNothing (order_read one c.args.read _ _ is.0 c.in-Ok.is c.in-CheckConvertible.is) nothing)

pub check_convertible-requires-clause-may : goal.check_convertible-requires-clause-may
check_convertible-requires-clause-may g c = (may_do (g.F.Folder.may c.args.folder.now) c.args.read _ _ c.requires.may c.in-Ok.is c.in-CheckConvertible.is).0

pub check_convertible-requires-clause-listing : goal.check_convertible-requires-clause-listing
check_convertible-requires-clause-listing g c = (may_do (g.F.Folder.may c.args.folder.now) c.args.read _ _ c.requires.may c.in-Ok.is c.in-CheckConvertible.is).1
