use Rattle.std.proofs.Common.{append_assoc, ◌∙◌}
use Rattle.http_message.proofs.reply.Reply.push_head.Goals as goal

pub returns-clause-value : goal.returns-clause-value
returns-clause-value c =
    let is = rw (
      c.push_allow.ensures.value,
      c.push_header-3.ensures,
      c.push_header-2.ensures,
      c.push_header.ensures,
      c.push_status_line.ensures.value,
      c.as_str.ensures.value,
      c.format.ensures.text,
      c.body_length-length.ensures,
    ) at c.push.ensures in
    is ∙ simp append_assoc
