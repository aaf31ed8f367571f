use Rattle.std.proofs.Common.{rules}
use Rattle.povundiri_c.proofs.Mailboxes.{looks}
use Rattle.povundiri_c.proofs.mailbox.Mailbox.look.Goals as goal

pub load_new_seat-requires : goal.load_new_seat-requires
load_new_seat-requires c = (search rules, looks c.args.self.now.table.shared.key _)
