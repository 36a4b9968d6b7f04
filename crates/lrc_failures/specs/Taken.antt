-- Which fault of the program a fault of a call below is.
use Rattle.lrc_outside.specs.declared.take_all.TakeFault.{TakeFault}
use Rattle.lrc_outside.specs.declared.take_all.TakeFault.TheVariants as t
use Rattle.lrc_reader.specs.declared.fault.JobFault.{JobFault}
use Rattle.lrc_reader.specs.declared.fault.JobFault.TheVariants as text
use Rattle.lrc_job.specs.declared.fault.AcceptFault.{AcceptFault}
use Rattle.lrc_job.specs.declared.fault.AcceptFault.TheVariants as accept
use Rattle.lrc_failures.specs.declared.failure.Failure.{Failure}
use Rattle.lrc_failures.specs.declared.failure.Failure.TheVariants as f

abbrev pub failure_of : TakeFault → Failure
failure_of t.Failed = f.Read
failure_of t.Memory = f.Memory

abbrev pub failure_of_text : JobFault → Failure
failure_of_text text.TooLong = f.Text text.TooLong
failure_of_text (text.Lex fault) = f.Text (text.Lex fault)
failure_of_text (text.Expected at) = f.Text (text.Expected at)
failure_of_text (text.LimitReached at limit) = f.Text (text.LimitReached at limit)
failure_of_text (text.NestedTooDeep at) = f.Text (text.NestedTooDeep at)
failure_of_text text.Memory = f.Memory

abbrev pub failure_of_job : AcceptFault → Failure
failure_of_job (accept.Grammar fault) = f.Accept (accept.Grammar fault)
failure_of_job (accept.Term session edit fault) = f.Accept (accept.Term session edit fault)
failure_of_job (accept.NotStart session) = f.Accept (accept.NotStart session)
failure_of_job accept.Memory = f.Memory
