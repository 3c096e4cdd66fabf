mod ParsedBack
