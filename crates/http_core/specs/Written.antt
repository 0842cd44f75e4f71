-- The heads that are written (RFC 9112, 3 and 4).
use Rattle.std.specs.Prelude.{ℕ, ◌<◌, ◌==◌, List, ◌++◌, length, codes, if◌then◌else◌}
use Rattle.std.specs.Fmt.{decimal}

-- the codes that are answered, with their reasons (RFC 9110, 15)
abbrev pub reason_of : ℕ → List ℕ
reason_of code =
    if code == 200 then codes "OK"
    else if code == 400 then codes "Bad Request"
    else if code == 404 then codes "Not Found"
    else if code == 405 then codes "Method Not Allowed"
    else if code == 411 then codes "Length Required"
    else if code == 413 then codes "Payload Too Large"
    else if code == 500 then codes "Internal Server Error"
    else if code == 503 then codes "Service Unavailable"
    else codes ""

-- the code is one of those that are answered
abbrev pub HasReason : ℕ → Type 0
HasReason code = 0 < length (reason_of code)

-- the head of a reply with that reason and a body of that length
abbrev pub reply_head : ℕ → List ℕ → ℕ → List ℕ
reply_head code reason size =
    codes "HTTP/1.1 " ++ decimal code ++ codes " " ++ reason
    ++ codes "\r\nContent-Type: application/json\r\nContent-Length: " ++ decimal size
    ++ codes "\r\nConnection: close\r\n\r\n"

-- the head of a reply with the code's own reason
abbrev pub head_text : ℕ → ℕ → List ℕ
head_text code size = reply_head code (reason_of code) size

-- the head of a request that posts a body of that length to a path
abbrev pub post_head : List ℕ → ℕ → List ℕ → ℕ → List ℕ
post_head host port path size =
    codes "POST " ++ path ++ codes " HTTP/1.1\r\nHost: " ++ host ++ codes ":" ++ decimal port
    ++ codes "\r\nContent-Type: application/json\r\nContent-Length: " ++ decimal size
    ++ codes "\r\nConnection: close\r\n\r\n"

-- the whole request
abbrev pub post_text : List ℕ → ℕ → List ℕ → List ℕ → List ℕ
post_text host port path body = post_head host port path (length body) ++ body
